-- Lines of a text and of what stands behind it.
--     feeds_append   a text has its lines and those behind it
--     line_first     a text without LF, and LF: the first line of what they begin
--     lines_fed      there are as many lines as LFs
use Rattle.answer.proofs.Kit.{◌≡◌, refl, sym, ap, ◌∙◌, Bool, true, false, cond, List, [], ◌∷◌, ◌++◌, ℕ, ◌+◌, add_assoc, zero-add, arith, eqb, length}
use Rattle.answer.specs.Lines.{line_feed, line_feeds, begun_with, lines_of}

pub feeds_append : (t u : List ℕ) → line_feeds (t ++ u) ≡ line_feeds t + line_feeds u
unfolding line_feeds
feeds_append [] u = sym (zero-add (line_feeds u))
feeds_append (b ∷ more) u =
    ap (λ (n : ℕ). cond (eqb b 10) 1 0 + n) (feeds_append more u) ∙ sym (add_assoc (cond (eqb b 10) 1 0) (line_feeds more) (line_feeds u))

pub line_first : (t u : List ℕ) → line_feeds t ≡ 0 → lines_of (t ++ line_feed ∷ u) ≡ t ∷ lines_of u
unfolding line_feeds lines_of begun_with
line_first [] u none = refl
line_first (b ∷ more) u none = by_case (eqb b line_feed) none (line_first more u (omega arith))
  where
    by_case : (is : Bool) → cond is 1 0 + line_feeds more ≡ 0 → lines_of (more ++ line_feed ∷ u) ≡ more ∷ lines_of u
        → cond is ([] ∷ lines_of (more ++ line_feed ∷ u)) (begun_with b (lines_of (more ++ line_feed ∷ u))) ≡ (b ∷ more) ∷ lines_of u
    by_case true none rest = absurd (let no_way : ⊥ = omega arith in no_way)
    by_case false none rest = ap (begun_with b) rest

begun_length : (b : ℕ) (lines : List (List ℕ)) → length (begun_with b lines) ≡ length lines
unfolding begun_with
begun_length b [] = refl
begun_length b (line ∷ more) = refl

pub lines_fed : (t : List ℕ) → length (lines_of t) ≡ line_feeds t
unfolding line_feeds lines_of
lines_fed [] = refl
lines_fed (b ∷ more) = by_case (eqb b line_feed) (lines_fed more)
  where
    by_case : (is : Bool) → length (lines_of more) ≡ line_feeds more
        → length (cond is ([] ∷ lines_of more) (begun_with b (lines_of more))) ≡ cond is 1 0 + line_feeds more
    by_case true rest = omega arith
    by_case false rest = begun_length b (lines_of more) ∙ rest ∙ sym (zero-add (line_feeds more))
