-- A text that goes into a part of a buffer, from a place on.
--     part_puts       it stands behind what stands below the place
--     part_long       how long such a part is at least
use Rattle.answer.proofs.Kit.{◌≡◌, refl, sym, ap, subst, ◌∙◌, List, ◌++◌, append_assoc, ℕ, ◌+◌, ◌-◌, ◌≤◌, zero-add, arith, length, take, drop, length-take, length-drop, take-append-drop, length-take-le, take-append-add, take_at}
use borrow.Rule.Slice.PartMut.{put_mid, post_of, mid_of, same_len_mid}
use Rattle.answer.specs.Written.{Writes}
use Rattle.answer.proofs.Writing.{Puts}

part_adds : (xs ys t rest : List ℕ) (a k : ℕ) → a ≤ length xs → ys ≡ t ++ rest → take (a + length t) (put_mid a k xs ys) ≡ take a xs ++ t
part_adds xs ys t rest a k h e =
    ap (λ (l : List ℕ). take (a + length t) (take a xs ++ (l ++ post_of a k xs))) e
    ∙ subst (λ (n : ℕ). take (n + length t) (take a xs ++ (t ++ rest ++ post_of a k xs)) ≡ take a xs ++ take (length t) (t ++ rest ++ post_of a k xs)) (length-take-le a xs h)
    (take-append-add (take a xs) (t ++ rest ++ post_of a k xs) (length t))
    ∙ ap (λ (l : List ℕ). take a xs ++ l) (ap (take (length t)) (append_assoc t rest (post_of a k xs)) ∙ take_at t (rest ++ post_of a k xs) (length t) refl)

module _ (l : List ℕ) (at k : ℕ) (inside : at ≤ length l) {t part part' : List ℕ} {r : ℕ} where
  pub part_puts : Writes part 0 t r part' → length part' ≡ length (mid_of at k l) → Puts l at t (at + r) (put_mid at k l part')
  part_puts w kept =
      let long : r ≡ length t = w.place ∙ zero-add (length t) in
      let begins : part' ≡ t ++ drop r part' = sym (take-append-drop r part') ∙ ap (λ (x : List ℕ). x ++ drop r part') w.added in
      record {
        wrote = record {
          place = ap (λ (n : ℕ). at + n) long;
          added = ap (λ (n : ℕ). take (at + n) (put_mid at k l part')) long ∙ part_adds l part' t (drop r part') at k inside begins;
        };
        same = same_len_mid at k l part' kept;
      }

pub part_long : (xs : List ℕ) (a n : ℕ) → a + n ≤ length xs → n ≤ length (mid_of a (length xs - a) xs)
part_long xs a n h = simp (length-take, length-drop) (omega arith)
