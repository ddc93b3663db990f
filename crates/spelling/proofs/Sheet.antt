-- Paper 01, "Engraver's proof sheet": "tones of 73 on C; 137 on Gb" are `C Eb Gb`, by paper 02, Q-3, and `Gb Bbb Db`.
use Rattle.answer.proofs.Kit.{◌≡◌, refl}
use Rattle.answer.specs.Words.{bytes}
use Rattle.answer.specs.Replies.{text}
use Rattle.spelling.specs.Tones.{spelled_by, tones_reply}
use Rattle.spelling.proofs.Computed.{tones_computed}

pub tones_of_73_on_c : tones_reply spelled_by 0 73 ≡ text (bytes "C Eb Gb")
unfolding tones_computed
tones_of_73_on_c = refl

pub tones_of_137_on_gb : tones_reply spelled_by 6 137 ≡ text (bytes "Gb Bbb Db")
unfolding tones_computed
tones_of_137_on_gb = refl
