-- How long a listing is.
--     two_bytes     it has two bytes for each set
--     listing_room_lem  at most 32
--     long_listing  and none for a text that is longer than any suffix
use Rattle.answer.proofs.Kit.{◌≡◌, refl, ap, List, [], ◌∷◌, ℕ, ◌*◌, ◌<◌, ◌≤◌, arith, length}
use Rattle.rules.specs.Suffix.{reached}
use Rattle.suffixes.specs.Sets.{sets_of, most_shared}
use Rattle.suffixes.proofs.Laws.{long_text}
use Rattle.suffixes.proofs.Shared.{sixteen}
use Rattle.listing.specs.Listing.{in_bytes, listing_of}

bytes_length : (l : List ℕ) → length (in_bytes l) ≡ 2 * length l
unfolding in_bytes
bytes_length [] = refl
bytes_length (x ∷ more) = omega (arith, bytes_length more)

pub two_bytes : (t : List ℕ) → length (listing_of t) ≡ 2 * length (sets_of t)
unfolding listing_of
two_bytes t = bytes_length (sets_of t)

pub listing_room_lem : (t : List ℕ) → length (listing_of t) ≤ 2 * most_shared
listing_room_lem t = omega (arith, two_bytes t, sixteen t)

pub long_listing : (t : List ℕ) → reached < length t → listing_of t ≡ []
unfolding listing_of in_bytes
long_listing t long = ap in_bytes (long_text t long)
