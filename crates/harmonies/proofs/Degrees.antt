-- Degrees are read back as they are written.
--     are_read        a test of degrees
--     Row, row_of     the elements of such as pass it: clean, read back, and no bass among them
use Rattle.answer.proofs.Kit.{◌≡◌, refl, ap, ap₂, Bool, true, false, ◌&&◌, List, [], ◌∷◌, ◌++◌, ℕ, T, eqb, eqb→eq, ℤ, pos, negsuc}
use Rattle.answer.specs.Words.{bytes, same}
use Rattle.answer.proofs.Tests.{left, right, is_true}
use Rattle.harmonies.specs.Xml.{◌then◌}
use Rattle.harmonies.specs.Degrees.{Degree}
use Rattle.harmonies.specs.Harmony.{decimal, integer, degree, degrees}
use Rattle.harmonies.specs.Reading.{text_in, is_there, number_of, integer_of, degrees_in}
use Rattle.harmonies.proofs.Parsed.{plain, is_name, clean, clean_then}

-- two integers are the same
unfoldable pub sameℤ : ℤ → ℤ → Bool
sameℤ (pos a) (pos b) = eqb a b
sameℤ (pos a) (negsuc b) = false
sameℤ (negsuc a) (pos b) = false
sameℤ (negsuc a) (negsuc b) = eqb a b

sameℤ→eq : (a b : ℤ) → T (sameℤ a b) → a ≡ b
unfolding sameℤ
sameℤ→eq (pos a) (pos b) t = ap pos (eqb→eq a b t)
sameℤ→eq (pos a) (negsuc b) t = absurd t
sameℤ→eq (negsuc a) (pos b) t = absurd t
sameℤ→eq (negsuc a) (negsuc b) t = ap negsuc (eqb→eq a b t)

-- a degree's texts are plain, and give its numbers back
abbrev pub texts : Degree → Bool
texts d = plain (decimal d.value) && (plain (integer d.alter) && plain d.type)

abbrev pub numbers : Degree → Bool
numbers d = eqb (number_of (decimal d.value)) d.value && sameℤ (integer_of (integer d.alter)) d.alter

abbrev pub reads : Degree → Bool
reads d = texts d && numbers d

-- each of some does
unfoldable pub are_read : List Degree → Bool
are_read [] = true
are_read (d ∷ more) = reads d && are_read more

record Good (d : Degree) : Type 0 where
  pub is_clean : T (clean (degree d))
  pub back : degrees_in (degree d) ≡ d ∷ []

good : (d : Degree) → T (reads d) → Good d
unfolding ◌then◌ text_in degrees_in bytes same is_name plain clean
good d t =
    let three = left (texts d) (numbers d) t in
    let two = right (plain (decimal d.value)) _ three in
    let back = right (texts d) (numbers d) t in
    let value = eqb→eq _ _ (left (eqb (number_of (decimal d.value)) d.value) _ back) in
    let alter = sameℤ→eq _ _ (right (eqb (number_of (decimal d.value)) d.value) _ back) in
    record {
      is_clean =
          rw (
            is_true (plain (decimal d.value)) (left (plain (decimal d.value)) _ three),
            is_true (plain (integer d.alter)) (left (plain (integer d.alter)) _ two),
            is_true (plain d.type) (right (plain (integer d.alter)) _ two),
          ) tt;
      back = ap₂ (λ (v : ℕ) (a : ℤ). record { value = v; alter = a; type = d.type } ∷ []) value alter;
    }

pub record Row (ds : List Degree) : Type 0 where
  pub all_clean : T (clean (degrees ds))
  pub back : degrees_in (degrees ds) ≡ ds
  pub no_bass : is_there "bass" (degrees ds) ≡ false

no_row : Row []
unfolding clean degrees degrees_in is_there
no_row = record { all_clean = tt; back = refl; no_bass = refl }

one_more : (d : Degree) (ds : List Degree) → Good d → Row ds → Row (d ∷ ds)
unfolding ◌then◌ degrees degrees_in is_there bytes same
one_more d ds g r =
    record {
      all_clean = clean_then (degree d) (degrees ds) g.is_clean r.all_clean;
      back = ap₂ ◌++◌ g.back r.back;
      no_bass = r.no_bass;
    }

pub row_of : (ds : List Degree) → T (are_read ds) → Row ds
unfolding are_read
row_of [] t = no_row
row_of (d ∷ more) t = one_more d more (good d (left (reads d) (are_read more) t)) (row_of more (right (reads d) (are_read more) t))
