-- Determinacy: two answers that a contract allows to one call are the same answer, and leave the same bytes.
--     determined     the law: what two answers are both said to equal makes them equal
--     both           the same of an answer with the bytes that it leaves
--     Decides        a contract, as its function's proof and its callers read it (`Post`), allows one answer to each call
--     DecidesWith    and one content of what it was lent
--     DecidesShown   or, of a reference that it hands back, where that points and the values there: what else it has is of the logic, and not of the machine
--     F-decides      the contract of `F` does
use denote.Ref.{Bor}
use Rattle.std.proofs.Common.{Fits, w64}
use Rattle.answer.proofs.Kit.{◌≡◌, refl, sym, ◌∙◌, List, ℕ, Bor}
use Rattle.answer.proofs.refusal.Refusal.number.Reads as number
use Rattle.answer.proofs.refusal.Refusal.place.Reads as place
use Rattle.answer.proofs.output.give.Reads as give
use Rattle.answer.proofs.word.put.Reads as put
use Rattle.answer.proofs.text.Text.new.Reads as new
use Rattle.answer.proofs.text.Text.push.Reads as push
use Rattle.answer.proofs.text.Text.push_byte.Reads as push_byte
use Rattle.answer.proofs.text.Text.push_bytes.Reads as push_bytes
use Rattle.answer.proofs.text.Text.as_slice.Reads as as_slice
use Rattle.answer.proofs.text.Text.give.Reads as text_give

pub determined {ℓ} : {A : Type ℓ} {x y told : A} → x ≡ told → y ≡ told → x ≡ y
determined p q = p ∙ sym q

pub both {ℓ} : {A B : Type ℓ} {x y told : A} {l m left : B} → (x ≡ told) × (l ≡ left) → (y ≡ told) × (m ≡ left) → (x ≡ y) × (l ≡ m)
both p q = (determined p.0 q.0, determined p.1 q.1)

-- over the lifetimes of a call, its arguments, its answer and what it leaves
abbrev pub Decides {ℓ} : {K : Type ℓ} {A R S : K → Type 0} → ((κs : K) → A κs → R κs → S κs → Type 0) → Type ℓ
Decides {K} {A} {R} {S} Post = (κs : K) (a : A κs) (r r' : R κs) (s s' : S κs) → Post κs a r s → Post κs a r' s' → r ≡ r'

-- and what it leaves, read as the bytes of a range that it was lent, or as another value that it was lent
abbrev pub DecidesWith {ℓ} : {K : Type ℓ} {A R S : K → Type 0} {B : Type 0} → ((κs : K) → A κs → R κs → S κs → Type 0) → ((κs : K) → S κs → B) → Type ℓ
DecidesWith {K} {A} {R} {S} Post left =
    (κs : K) (a : A κs) (r r' : R κs) (s s' : S κs) → Post κs a r s → Post κs a r' s' → (r ≡ r') × (left κs s ≡ left κs s')

abbrev pub DecidesShown {ℓ} : {K : Type ℓ} {A S : K → Type 0} {B : Type 0} → ((κs : K) → A κs → Bor B → S κs → Type 0) → Type ℓ
DecidesShown {K} {A} {S} {B} Post =
    (κs : K) (a : A κs) (r r' : Bor B) (s s' : S κs) → Post κs a r s → Post κs a r' s' → (r.ref_ptr ≡ r'.ref_ptr) × (r.now ≡ r'.now)

pub number_decides : Decides number.Post
number_decides κs a r r' s s' = determined

pub place_decides : Decides place.Post
place_decides κs a r r' s s' = determined

pub give_decides : DecidesWith give.Post (λ κs s. s.1.0.now)
give_decides κs a r r' s s' = both

pub put_decides : DecidesWith put.Post (λ κs s. s.0.now)
put_decides κs a r r' s s' = both

module _ (n : ℕ) (small : Fits w64 n) where
  pub new_decides : Decides (new.Post n small)
  new_decides κs a r r' s s' = determined

  pub push_decides : DecidesWith (push.Post n small) (λ κs s. s.0.now)
  push_decides κs a r r' s s' p q = (refl, determined p q)

  pub push_byte_decides : DecidesWith (push_byte.Post n small) (λ κs s. s.0.now)
  push_byte_decides κs a r r' s s' p q = (refl, determined p q)

  pub push_bytes_decides : DecidesWith (push_bytes.Post n small) (λ κs s. s.0.now)
  push_bytes_decides κs a r r' s s' p q = (refl, determined p.is q.is)

  pub as_slice_decides : DecidesShown (as_slice.Post n small)
  as_slice_decides κs a r r' s s' p q = (determined p.1 q.1, determined p.0 q.0)

  pub text_give_decides : DecidesWith (text_give.Post n small) (λ κs s. s.1.0.now)
  text_give_decides κs a r r' s s' = both
