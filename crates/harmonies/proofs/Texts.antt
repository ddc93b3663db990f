-- Elements as texts in a row.
--     written_then     a row behind another
--     degree_text_lem  a degree: its value, alter and type between what every degree has
--     degrees_long     how many bytes degrees have
--     harmony_text     the whole: the root's element, the kind's name, the bass's element and the degrees, between what every harmony has
use Rattle.answer.proofs.Kit.{◌≡◌, refl, ap, ap₂, ◌∙◌, List, [], ◌∷◌, ◌++◌, append_assoc, ℕ, ◌+◌, arith, length, length-append, Option}
use Rattle.answer.specs.Words.{bytes}
use Rattle.notes.specs.declared.note.Note.{Note}
use Rattle.rules.specs.Parts.{suffix_quality}
use Rattle.harmonies.specs.Xml.{Elements, none, element, ◌then◌, leaf, node, written}
use Rattle.harmonies.specs.Degrees.{Degree}
use Rattle.harmonies.specs.Kinds.{kind_of, degrees_of}
use Rattle.harmonies.specs.Harmony.{decimal, integer, root_of, bass_of, degree, degrees, harmony, harmony_of}
use Rattle.harmonies.proofs.Lossless.{sizes}

pub written_then : (a b : Elements) → written (a then b) ≡ written a ++ written b
unfolding written ◌then◌
written_then none b = refl
written_then (element name text inside behind) b = rw (written_then behind b) (simp append_assoc)

-- the same bytes, tag by tag and in texts as long as may be
degree_tags : (v a k : List ℕ)
    → bytes "<" ++ (bytes "degree" ++ (bytes ">" ++ (bytes "<" ++ (bytes "degree-value" ++ (bytes ">" ++ (v ++ (bytes "</" ++ (bytes "degree-value" ++ (bytes ">" ++ (bytes "<" ++ (bytes "degree-alter" ++ (bytes ">" ++ (a ++ (bytes "</" ++ (bytes "degree-alter" ++ (bytes ">" ++ (bytes "<" ++ (bytes "degree-type" ++ (bytes ">" ++ (k ++ (bytes "</" ++ (bytes "degree-type" ++ (bytes ">" ++ (bytes "</" ++ (bytes "degree" ++ (bytes ">" ++ ([])))))))))))))))))))))))))))
    ≡ bytes "<degree><degree-value>" ++ (v ++ (bytes "</degree-value><degree-alter>" ++ (a ++ (bytes "</degree-alter><degree-type>" ++ (k ++ (bytes "</degree-type></degree>"))))))
unfolding bytes
degree_tags v a k = refl

pub degree_text_lem : (d : Degree)
    → written (degree d)
    ≡ bytes "<degree><degree-value>" ++ decimal d.value ++ bytes "</degree-value><degree-alter>" ++ integer d.alter ++ bytes "</degree-alter><degree-type>"
    ++ (d.type ++ bytes "</degree-type></degree>")
unfolding written ◌then◌
degree_text_lem d = simp append_assoc (degree_tags (decimal d.value) (integer d.alter) d.type)

degree_long : (d : Degree) → length (written (degree d)) ≡ 102 + length (decimal d.value) + length (integer d.alter) + length d.type
unfolding bytes
degree_long d = ap length (degree_text_lem d) ∙ simp length-append (omega arith)

pub degrees_long : (ds : List Degree) → length (written (degrees ds)) ≡ sizes ds
unfolding degrees sizes written
degrees_long [] = refl
degrees_long (d ∷ more) = longer (degree d) (degrees more) _ _ (degree_long d) (degrees_long more)
  where
    longer : (a b : Elements) (m n : ℕ) → length (written a) ≡ m → length (written b) ≡ n → length (written (a then b)) ≡ m + n
    longer a b m n e f = ap length (written_then a b) ∙ length-append (written a) (written b) ∙ ap₂ ◌+◌ e f

harmony_tags : (r k b d : List ℕ)
    → bytes "<" ++ (bytes "harmony" ++ (bytes ">" ++ (r ++ (bytes "<" ++ (bytes "kind" ++ (bytes ">" ++ (k ++ (bytes "</" ++ (bytes "kind" ++ (bytes ">" ++ (b ++ (d ++ (bytes "</" ++ (bytes "harmony" ++ (bytes ">" ++ ([]))))))))))))))))
    ≡ bytes "<harmony>" ++ (r ++ (bytes "<kind>" ++ (k ++ (bytes "</kind>" ++ (b ++ (d ++ (bytes "</harmony>")))))))
unfolding bytes
harmony_tags r k b d = refl

harmony_row : (r : Elements) (k : List ℕ) (b d : Elements)
    → written (node "harmony" (r then leaf "kind" k then b then d))
    ≡ bytes "<harmony>" ++ written r ++ bytes "<kind>" ++ k ++ bytes "</kind>" ++ written b ++ written d ++ bytes "</harmony>"
unfolding written
harmony_row r k b d =
    rw (written_then (r then leaf "kind" k then b) d, written_then (r then leaf "kind" k) b, written_then r (leaf "kind" k))
    (simp append_assoc (harmony_tags (written r) k (written b) (written d)))

pub harmony_text : (table : List Note) (root : ℕ) (b : Option ℕ) (s : ℕ)
    → harmony_of table root b s
    ≡ bytes "<harmony>" ++ written (root_of table root) ++ bytes "<kind>" ++ (kind_of (suffix_quality s)).name ++ bytes "</kind>" ++ written (bass_of table b)
    ++ written (degrees (degrees_of s)) ++ bytes "</harmony>"
unfolding harmony_of harmony
harmony_text table root b s = harmony_row (root_of table root) (kind_of (suffix_quality s)).name (bass_of table b) (degrees (degrees_of s))
