-- The exports' contracts are those of the boundary's functions, so what is proved of these holds of the exports: here that each allows
-- one answer to each call, and one content of the range that it is lent, or of the two numbers.
use Rattle.answer.proofs.Kit.{[], ◌∷◌}
use Rattle.answer.proofs.Determined.{Decides, DecidesWith}
use Rattle.hemotusap.proofs.Determined as boundary
use Rattle.hemotusap_c.proofs.naming.hemotusap_quality.Reads as quality
use Rattle.hemotusap_c.proofs.moves.hemotusap_get_note.Reads as get-note
use Rattle.hemotusap_c.proofs.moves.hemotusap_transpose.Reads as transpose
use Rattle.hemotusap_c.proofs.naming.hemotusap_note_text.Reads as note-text
use Rattle.hemotusap_c.proofs.symbols.hemotusap_suffix.Reads as suffix
use Rattle.hemotusap_c.proofs.symbols.hemotusap_listing.Reads as listing
use Rattle.hemotusap_c.proofs.symbols.hemotusap_tones.Reads as tones
use Rattle.hemotusap_c.proofs.symbols.hemotusap_candidates.Reads as candidates
use Rattle.hemotusap_c.proofs.symbols.hemotusap_candidates_strict.Reads as candidates-strict
use Rattle.hemotusap_c.proofs.symbols.hemotusap_candidates_sharp.Reads as candidates-sharp
use Rattle.hemotusap_c.proofs.symbols.hemotusap_candidates_strict_sharp.Reads as candidates-strict-sharp
use Rattle.hemotusap_c.proofs.symbols.hemotusap_candidate_line.Reads as candidate_line
use Rattle.hemotusap_c.proofs.symbols.hemotusap_candidate_count.Reads as candidate-count
use Rattle.hemotusap_c.proofs.symbols.hemotusap_candidate.Reads as candidate
use Rattle.hemotusap_c.proofs.scores.hemotusap_harmony.Reads as harmony
use Rattle.hemotusap_c.proofs.voices.hemotusap_voicing.Reads as voicing
use Rattle.hemotusap_c.proofs.voices.hemotusap_voicing_within.Reads as voicing-within

pub quality_decides : Decides quality.Post
quality_decides = boundary.quality_decides

pub get_note_decides : Decides get-note.Post
get_note_decides = boundary.get_note_decides

pub transpose_decides : Decides transpose.Post
transpose_decides = boundary.transpose_decides

pub note_text_decides : DecidesWith note-text.Post (λ κs s. s.1.1.0.now)
note_text_decides = boundary.note_text_decides

pub suffix_decides : DecidesWith suffix.Post (λ κs s. s.1.0.now)
suffix_decides = boundary.suffix_decides

pub candidates_decides : DecidesWith candidates.Post (λ κs s. s.1.0.now)
candidates_decides = boundary.candidates_decides

pub candidates_strict_decides : DecidesWith candidates-strict.Post (λ κs s. s.1.0.now)
candidates_strict_decides = boundary.candidates_strict_decides

pub candidates_sharp_decides : DecidesWith candidates-sharp.Post (λ κs s. s.1.0.now)
candidates_sharp_decides = boundary.candidates_sharp_decides

pub candidates_strict_sharp_decides : DecidesWith candidates-strict-sharp.Post (λ κs s. s.1.0.now)
candidates_strict_sharp_decides = boundary.candidates_strict_sharp_decides

pub candidate_line_decides : DecidesWith candidate_line.Post (λ κs s. s.1.1.1.1.0.now ∷ s.1.1.1.1.1.0.now ∷ [])
candidate_line_decides = boundary.candidate_line_decides

pub candidate_count_decides : Decides candidate-count.Post
candidate_count_decides = boundary.candidate_count_decides

pub candidate_decides : Decides candidate.Post
candidate_decides = boundary.candidate_decides

pub listing_decides : DecidesWith listing.Post (λ κs s. s.1.0.now)
listing_decides = boundary.listing_decides

pub tones_decides : DecidesWith tones.Post (λ κs s. s.1.1.0.now)
tones_decides = boundary.tones_decides

pub voicing_decides : DecidesWith voicing.Post (λ κs s. s.1.1.1.1.1.0.now)
voicing_decides = boundary.voicing_decides

pub voicing_within_decides : DecidesWith voicing-within.Post (λ κs s. s.1.1.1.1.1.1.1.0.now)
voicing_within_decides = boundary.voicing_within_decides

pub harmony_decides : DecidesWith harmony.Post (λ κs s. s.1.1.1.0.now)
harmony_decides = boundary.harmony_decides
