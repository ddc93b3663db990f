-- What the proofs take from the kit, so that a file names it in one line.
pub use mathlib.Core.Path.{◌∙◌, ◌≡◌, ap, ap₂, refl, subst, subst₂, sym}
pub use mathlib.Core.Bool.{Bool, ◌&&◌, ◌||◌, and_assoc, and-false, and-true, cond, false, not, or_assoc, or-false, or-true, true, true≢false}
pub use mathlib.Core.Logic.{◌⊎◌, inl, inr, ⊎_elim}
pub use mathlib.Core.List.Memᴰ.{append_cases as Memᴰ-append_cases}
pub use mathlib.Core.List.Memᴰ.{cases_cons as Memᴰ-cases_cons}
pub use mathlib.Core.List.Memᴰ.{eq_of_singleton as Memᴰ-eq_of_singleton}
pub use mathlib.Core.List.Memᴰ.{head as Memᴰ-head}
pub use mathlib.Core.List.Memᴰ.{not-nil as Memᴰ-not_nil}
pub use mathlib.Core.List.Memᴰ.{of_map as Memᴰ-of_map}
pub use mathlib.Core.List.Memᴰ.{tail as Memᴰ-tail}
pub use mathlib.Core.List.{List, Memᴰ, [], ◌++◌, ◌∷◌, append_assoc, append-nil, map, map-append}
unfoldable pub use mathlib.Core.List.{flat_map, flatten}
pub use Prim.Native.Nat.{◌%◌, ◌*◌, ◌+◌, ◌-◌, ◌/◌, ◌<◌, ◌^◌, ◌≤◌, max, min, suc, suc-le-suc, zero, ℕ}
pub use native.Mathlib.Nat.{add_assoc, add_comm, add-div_right, add-mul, add_right_comm, add-sub_of_le, add-zero, div-add-mod', div-div-eq-div-mul, div-eq_of_lt, div-one, div_self, eq-or-lt_of_le, le_of_suc-le-suc, le_refl, le_trans, lt_of_lt_of_le, max-eq_right, max-le, max-zero, min-eq_left, min-eq_right, min-le_left, mod-eq_of_lt, mod-lt, mul_assoc, mul-div_cancel_left, mul-mod_left, not-suc-le-zero, one-mul, pow-le-pow_right, pow-suc, pow-succ', suc-add, zero-add, zero-div, zero-min, zero-mul}
pub use native.Mathlib.Numerals.{add-one, one-add, unary_clauses}
pub use native.Mathlib.Decide.{dec_le, dec_lt}
pub use native.Mathlib.Omega.{arith}
pub use lib.Dec.{T, T_not, eqb, eqb→eq, leb, leb-suc-suc, leb→le, lit<, ltb, ltb→lt, nleb→lt, nltb→le, not_T}
pub use lib.ListN.{get_or-eq_default, drop, get_or, length, length-append, length-drop, length-map, length-replicate, length-set, length-take, replicate, set, take, take-append-drop}
pub use lib.Seq.{append_snoc, drop-append-add, drop_at, drop-cons, drop-drop, drop-length, drop-set-lt, get_or-take, length_front, length-take-le, paste-suc, set_split, sets, sets-eq, slice, slice-cons, slice_empty, take_all, take-append-add, take-append-le, take-append_seam, take_at, take-length, take-set-lt, take-suc, take-suc-set}
pub use lib.Bits.{and_block, and_lt, and_mask, and_shr, and_step, and_zero_r, bit_and, bit_or, bit_xor, or_disjoint, or_lt, or_shr, or_step, or_zero_r, xor_lt}
pub use lib.Count.{ones_cat, ones-le, ones_step, under}
unfoldable pub use lib.Count.{ones, ones_in, count_trailing_zeros}
pub use lib.Pow.{pow-add, pow-lt, pow_mono, pow_pos, shl_exact, shr_lt}
pub use lib.IntN.{+ℤ_idl, +ℤ_idr, +ℤ-neg_ℤ_cancel, ◌+ℤ◌, ◌-ℤ◌, nat_abs, negsuc, neg_ℤ, pos, ℤ}
pub use lib.Signed.{clash_ℤ, le_z, le_z_yes, lt_z, lt_z_no, lt_z_yes, mag, non_neg}
pub use borrow.Author.Rules.{rules}
pub use borrow.Author.Tests.{eq-eqb, eqb-false, eqb-true, le-leb, le-ltb, leb-false, leb-true, lt-leb, lt-ltb, ltb-false, ne_eqb, not-false, not-true}
pub use denote.Ref.{Bor, MutBor}
pub use Rattle.std.specs.Prelude.{Err, None, Ok, Option, Result, Some, ⊤}
