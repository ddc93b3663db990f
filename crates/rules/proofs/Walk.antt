-- A loop that takes the intervals of a set from the lowest up and writes a text for each: where it stands, and what a turn does.
--     Each                     a text of sets: nothing of none, and of others what the first interval's number has, before the text of the rest
--     Walk, begin, end         what is written so far, with the text of what is left, is the whole
--     within, has_room_lem, turn   a turn writes what the first interval that is left has
use Rattle.answer.proofs.Kit.{◌≡◌, ap, ◌∙◌, List, [], ◌++◌, ℕ, ◌+◌, ◌*◌, ◌%◌, ◌-◌, ◌^◌, ◌≤◌, ◌<◌, arith, count_trailing_zeros, length, length-append}
use Rattle.answer.proofs.Writing.{Puts, SoFar, so_far_none, so_far_next, so_far_all}
use Rattle.rules.proofs.First.{First, lowest_of, bit}

pub record Each (text one : ℕ → List ℕ) : Type 0 where
  pub none : text 0 ≡ []
  pub more : (set k : ℕ) → First set k → text set ≡ one k ++ text (set - 2 ^ k)

pub record Walk (text : ℕ → List ℕ) (l₀ : List ℕ) (from set : ℕ) (l : List ℕ) (at left : ℕ) : Type 0 where
  pub so_far : SoFar l₀ from (text set) l at (text left)
  pub small : left < 2 ^ 23
  pub room : at + length (text left) + 8 ≤ length l

pub begin : (text : ℕ → List ℕ) (l : List ℕ) (from set : ℕ) → set < 2 ^ 23 → from + length (text set) + 8 ≤ length l → Walk text l from set l from set
begin text l from set h room = record { so_far = so_far_none l from (text set); small = h; room = room }

module _ {text one : ℕ → List ℕ} (each : Each text one) {l₀ : List ℕ} {from set : ℕ} {l : List ℕ} {at left : ℕ} (w : Walk text l₀ from set l at left) where
  pub end : left ≡ 0 → Puts l₀ from (text set) at l
  end e = so_far_all w.so_far (ap text e ∙ each.none)

  module _ (some : left ≡ 0 → ⊥) where
    abbrev k : ℕ
    k = count_trailing_zeros 32 left

    f : First left k
    f = lowest_of left some w.small

    split : text left ≡ one k ++ text (left - 2 ^ k)
    split = each.more left k f

    long : length (text left) ≡ length (one k) + length (text (left - 2 ^ k))
    long = ap length split ∙ length-append (one k) (text (left - 2 ^ k))

    pub within : k < 23
    within = f.within

    pub has_room_lem : at + length (one k) + 8 ≤ length l
    has_room_lem = omega (arith, long, w.room)

    pub turn : (r : ℕ) (l' : List ℕ) → Puts l at (one k) r l' → Walk text l₀ from set l' r (left - (1 * 2 ^ k) % 2 ^ 32)
    turn r l' p =
        rw (bit left some w.small)
        record {
          so_far = so_far_next w.so_far (one k) (text (left - 2 ^ k)) split p;
          small = omega (arith, w.small);
          room = omega (arith, long, w.room, p.wrote.place, p.same);
        }
