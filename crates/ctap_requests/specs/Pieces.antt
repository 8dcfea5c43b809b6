-- What the private functions of requests are proved against; no public clause cites it.
use Rattle.std.specs.Prelude.{◌≡◌, ℕ, ◌^◌, List, [], ◌∷◌, Bool, true, false, ◌&&◌, nat_lt, None, Result, Ok, Err, ℤ, pos, negsuc}
use Rattle.ccbor.specs.Item.{Item}
use Rattle.ccbor.specs.View.{view}
use Rattle.ccbor.specs.declared.value.Value.{Value}
use Rattle.ctap_encoding.specs.Content.{Contents}
use Rattle.ctap_encoding.specs.declared.fault.Fault.{Fault}
use Rattle.ctap_encoding.specs.declared.fault.Fault.TheVariants as faults
use Rattle.ctap_encoding.specs.declared.error.Error.{Error}
use Rattle.ctap_encoding.specs.declared.error.Error.TheVariants as errors
use Rattle.ctap_requests.specs.declared.request.RequestView.{RequestView}
use Rattle.ctap_requests.specs.Entities.{CredentialParameters}
use Rattle.ctap_requests.specs.Requests.{creation_members, assertion_members, RequestMessage, RequestOf}
use Rattle.ctap_requests.specs.Status.{NoStatus, Rank, another_kind, unlisted_key, missing_member, invalid_size, over_limit}

-- ---- reading

-- a content without extensions, which a record does not keep
abbrev pub forget_creation : Contents creation_members → Contents creation_members
forget_creation c = (c.0, (c.1.0, (c.1.1.0, (c.1.1.1.0, (c.1.1.1.1.0, (None, c.1.1.1.1.1.1))))))

abbrev pub forget_assertion : Contents assertion_members → Contents assertion_members
forget_assertion c = (c.0, (c.1.0, (c.1.1.0, (None, c.1.1.1.1))))

-- the rank of a map's fault
abbrev pub rank_of : Fault → Rank
rank_of faults.AnotherKind = another_kind
rank_of faults.UnlistedKey = unlisted_key
rank_of faults.MissingMember = missing_member
rank_of faults.InvalidSize = invalid_size
rank_of faults.OverLimit = over_limit

-- a command byte alone
abbrev pub Alone : RequestView → List ℕ → Result RequestView Error → Type 0
Alone request [] result = result ≡ Ok request
Alone request (b ∷ rest) result = result ≡ Err (errors.Status 0x02)

-- ---- writing

-- a head has room for the number
abbrev pub is_number : ℤ → Bool
is_number (pos n) = nat_lt n (2 ^ 64)
is_number (negsuc n) = nat_lt n (2 ^ 64)

abbrev pub all_numbers : List CredentialParameters → Bool
all_numbers [] = true
all_numbers (p ∷ ps) = is_number p.alg && all_numbers ps

-- the value of an item was made; or the numbers do not fit; or memory ran out
abbrev pub Builds : Bool → Item → Result Value Error → Type 0
Builds fits x (Ok v) = view v ≡ x
Builds fits x (Err errors.Memory) = Unit {0}
Builds fits x (Err errors.Unfit) = fits ≡ false
Builds fits x (Err _) = ⊥

-- the request's bytes were made; or it has none that no rank applies to; or memory ran out
abbrev pub Written : {V : Type 0} → (V → List ℕ) → RequestMessage → Result V Error → Type 0
Written items q (Ok v) = RequestOf q None (items v) × NoStatus (items v)
Written items q (Err errors.Memory) = Unit {0}
Written items q (Err errors.Unfit) = (bs : List ℕ) → RequestOf q None bs → NoStatus bs → ⊥
Written items q (Err _) = ⊥
