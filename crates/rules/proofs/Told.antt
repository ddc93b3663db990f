-- What the code computes of a rooted set, step by step, is what the paper says of it: by the test at each of the 2,048.
use Rattle.answer.proofs.Kit.{◌≡◌, sym, ap, ◌∙◌, true, List, [], ◌++◌, map, ℕ, bit_and, bit_or, eqb→eq, Option, Some, None}
use Rattle.answer.specs.Words.{bytes}
use Rattle.intervals.specs.Sets.{is_rooted, bits}
use Rattle.intervals.specs.Intervals.{numbered, numeric_of, set_of}
use Rattle.intervals.specs.declared.interval.Interval.{Interval}
use Rattle.intervals.proofs.Rows.{numbered_back, numbered_none}
use Rattle.qualities.specs.Masks.{alteration_bits, extension_bits, stack_bits, own_bits}
use Rattle.qualities.specs.declared.quality.ChordQuality.{ChordQuality}
use Rattle.rules.specs.Classes.{intervals_in, intervals_of}
use Rattle.rules.specs.Parts.{with_third, suffix_quality, is_sus, alterations_of, extensions_of, last_add, omit_third, omit_fifth}
use Rattle.rules.specs.Stack.{own_seventh, unstacked_of, is_diminished, modifier_of, adds_of}
use Rattle.rules.specs.Heading.{is_sixth}
use Rattle.rules.specs.Suffix.{worded, add_parts}
use Rattle.rules.specs.private.Steps.{with_third_from, sus_from, extensions_from, unstacked_from, modifier_from, adds_from, nine_from, last_from, omitted_third_from, omitted_fifth_from}
use Rattle.rules.proofs.Agree.{same_bool→eq, same_all→eq}
use Rattle.rules.proofs.Tested.{place_of, nine_of, adds_found, rule}

-- a modifier's number names it
at_place : (n : Option Interval) → numbered (place_of n) ≡ n
at_place (Some i) = numbered_back i
at_place None = numbered_none

module _ (s : ℕ) (is : is_rooted s ≡ true) where
  abbrev i : List Interval
  i = intervals_of s

  abbrev q : ChordQuality
  q = suffix_quality s

  -- the set that the quality is of
  pub with_third_lem : with_third_from s ≡ with_third s
  with_third_lem = eqb→eq _ _ (rule 0 s is)

  pub sus_told : sus_from s ≡ is_sus s
  sus_told = same_bool→eq _ _ (rule 1 s is)

  -- the intervals within the one mask, and those within the other, a major sixth as 13
  pub alterations : bit_and (set_of i) (alteration_bits q) ≡ set_of (alterations_of q i)
  alterations = eqb→eq _ _ (rule 2 s is)

  pub extensions : extensions_from (set_of i) (extension_bits q) ≡ set_of (extensions_of q i)
  extensions = eqb→eq _ _ (rule 3 s is)

  -- what the stack keeps from being the modifier
  pub unstacked : unstacked_from (bit_or (set_of (alterations_of q i)) (set_of (extensions_of q i))) (bits (map numeric_of (own_seventh q))) (stack_bits q) ≡ set_of (unstacked_of q i)
  unstacked = eqb→eq _ _ (rule 4 s is)

  -- the last that is stacked
  pub modifier : modifier_from (is_diminished q) (set_of (extensions_of q i)) (set_of (unstacked_of q i)) ≡ modifier_of q i
  modifier = sym (at_place _) ∙ ap numbered (eqb→eq _ _ (rule 5 s is)) ∙ at_place _

  pub adds : adds_from (is_diminished q) (set_of (extensions_of q i)) (set_of (unstacked_of q i)) (own_bits q) ≡ set_of (adds_of q i)
  adds = eqb→eq _ _ (rule 6 s is)

  -- the 9 behind the `6`, and the major third under sus
  pub nine_behind : nine_from (is_sixth q) (set_of (adds_of q i)) ≡ nine_of q i
  nine_behind = eqb→eq _ _ (rule 7 s is)

  pub last_add_lem : last_from (is_sus s) (set_of i) ≡ set_of (last_add s)
  last_add_lem = eqb→eq _ _ (rule 8 s is)

  pub omit_third_lem : omitted_third_from s ≡ set_of (omit_third s)
  omit_third_lem = eqb→eq _ _ (rule 9 s is)

  pub omit_fifth_lem : omitted_fifth_from (set_of i) ≡ set_of (omit_fifth s)
  omit_fifth_lem = eqb→eq _ _ (rule 10 s is)

  pub omits : bit_or (set_of (omit_third s)) (set_of (omit_fifth s)) ≡ set_of (omit_third s ++ omit_fifth s)
  omits = eqb→eq _ _ (rule 11 s is)

  -- read back from their sets, they make the parts that the paper lists
  pub alterations_listed : worded [] (intervals_in (set_of (alterations_of q i))) ≡ worded [] (alterations_of q i)
  alterations_listed = same_all→eq _ _ (rule 12 s is)

  pub adds_listed : adds_found (set_of (adds_of q i)) (nine_of q i) (set_of (last_add s)) ≡ add_parts q (bytes "add") (adds_of q i ++ last_add s)
  adds_listed = same_all→eq _ _ (rule 13 s is)

  pub omits_listed : worded (bytes "omit") (intervals_in (set_of (omit_third s ++ omit_fifth s))) ≡ worded (bytes "omit") (omit_third s ++ omit_fifth s)
  omits_listed = same_all→eq _ _ (rule 14 s is)
