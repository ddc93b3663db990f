-- `notes::note::spell` meets its contract: the tests say which height the difference has.
use Rattle.answer.proofs.Kit.{◌≡◌, ap, sym, ◌∙◌, ℕ, ◌+◌, ◌-◌, ◌<◌, ◌≤◌, pos, ◌-ℤ◌, lt-ltb, le-ltb}
use Rattle.notes.specs.Notes.{natural, nearest, note_of, spelled}
use Rattle.notes.specs.declared.note.Note.{Note}
use Rattle.notes.proofs.Counts.{lowered}
use Rattle.notes.proofs.Moves.{height_for, reaches}
use Rattle.notes.proofs.note.spell.Goals as goal

module _ (l p n : ℕ) (r : Note) (hp : p < 12) (known : (n ≡ natural l) × (n < 12)) where
  at_height : (h : ℕ) → h ≡ height_for (p + 12 - n) → r ≡ note_of l (lowered h) → r ≡ spelled l p
  unfolding spelled
  at_height h e made =
      made ∙ ap (λ (k : ℕ). note_of l (lowered k)) e
      ∙ ap (note_of l) (sym (reaches p n hp known.1) ∙ ap (λ (k : ℕ). nearest (pos p -ℤ pos k)) known.0)

  high : 18 < p + 12 - n → r ≡ note_of l (lowered (p + 12 - n - 18)) → r ≡ spelled l p
  high h = at_height (p + 12 - n - 18) (simp (lt-ltb _ _ h))

  low : p + 12 - n ≤ 18 → p + 12 - n < 6 → r ≡ note_of l (lowered (p + 12 - n + 6)) → r ≡ spelled l p
  low h k = at_height (p + 12 - n + 6) (simp (le-ltb _ _ h, lt-ltb _ _ k))

  near : p + 12 - n ≤ 18 → 6 ≤ p + 12 - n → r ≡ note_of l (lowered (p + 12 - n - 6)) → r ≡ spelled l p
  near h k = at_height (p + 12 - n - 6) (simp (le-ltb _ _ h, le-ltb _ _ k))

pub returns-then-above-gt18 : goal.returns-then-above-gt18
returns-then-above-gt18 c = high c.args.letter c.args.pitch _ _ c.requires.1 c.natural_semitone.ensures c.if-above-gt18.true c.at_height.ensures

pub returns-then-above-lt6 : goal.returns-then-above-lt6
returns-then-above-lt6 c = low c.args.letter c.args.pitch _ _ c.requires.1 c.natural_semitone.ensures c.if-above-gt18.false c.if-above-lt6.true c.at_height-then-above-lt6.ensures

pub returns : goal.returns
returns c = near c.args.letter c.args.pitch _ _ c.requires.1 c.natural_semitone.ensures c.if-above-gt18.false c.if-above-lt6.false c.at_height-2.ensures
