-- What the private functions of replies are proved against; no public clause cites it.
use Rattle.std.specs.Prelude.{◌≡◌, ◌≤◌, ◌<◌, ◌^◌, ℕ, ◌+◌, List, [], ◌∷◌, ◌++◌, length, Option, Some, None, IfSome, Result, Ok, Err}
use Rattle.ccbor.specs.Item as of
use Rattle.ccbor.specs.Item.{Item}
use Rattle.ccbor.specs.Canon.{Canon, spelling}
use Rattle.ctap_encoding.specs.Table.{Members, record_of}
use Rattle.ctap_encoding.specs.Content.{item_of}
use Rattle.ctap_encoding.specs.declared.error.Error.{Error}
use Rattle.ctap_encoding.specs.declared.error.Error.TheVariants as errors
use Rattle.ctap_replies.specs.Replies.{Assertion, MapReply, credential_members, credential_content, reply_user_members, reply_user_content}

-- status 0 and the value's encoding were written; or it has none; or memory ran out
abbrev pub WrittenValue : {V : Type 0} → (V → List ℕ) → Item → Result V Error → Type 0
WrittenValue items v (Ok b) = (rest : List ℕ) × (items b ≡ 0 ∷ rest) × Canon v rest
WrittenValue items v (Err errors.Memory) = Unit {0}
WrittenValue items v (Err errors.Unfit) = (rest : List ℕ) → Canon v rest → ⊥
WrittenValue items v (Err _) = ⊥

-- the bytes of status 0 and a map were made; or there are none; or memory ran out
abbrev pub WrittenMap : {V : Type 0} → (V → List ℕ) → Members → Item → Result V Error → Type 0
WrittenMap items ms v (Ok b) = MapReply ms v (items b)
WrittenMap items ms v (Err errors.Memory) = Unit {0}
WrittenMap items ms v (Err errors.Unfit) = (bs : List ℕ) → MapReply ms v bs → ⊥
WrittenMap items ms v (Err _) = ⊥

-- 1 to 64 bytes
abbrev pub IsIdSize : List ℕ → Type 0
IsIdSize id = (1 ≤ length id) × (length id ≤ 64)

-- the ids and the number of credentials are within their limits
abbrev pub HasSizes : Assertion → Type 0
HasSizes q = IsIdSize q.credential × IfSome q.user IsIdSize × IfSome q.number (λ n. 2 ≤ n)

-- the encodings of the members that each reply to getAssertion has, with their keys
abbrev pub required_bytes : Assertion → List ℕ
required_bytes q =
    spelling (of.uint 1)
    ++ (spelling (item_of (record_of credential_members) (credential_content q.credential))
    ++ (spelling (of.uint 2) ++ (spelling (of.bytes q.auth_data)
    ++ (spelling (of.uint 3) ++ spelling (of.bytes q.signature)))))

-- of the user, where it is there
abbrev pub user_bytes : Option (List ℕ) → List ℕ
user_bytes None = []
user_bytes (Some id) = spelling (of.uint 4) ++ spelling (item_of (record_of reply_user_members) (reply_user_content id))

-- of the number of credentials, where it is there
abbrev pub number_bytes : Option ℕ → List ℕ
number_bytes None = []
number_bytes (Some n) = spelling (of.uint 5) ++ spelling (of.uint n)

-- how many members the map has
abbrev pub one_if_there : {A : Type 0} → Option A → ℕ
one_if_there None = 0
one_if_there (Some x) = 1

abbrev pub member_count : Assertion → ℕ
member_count q = 3 + one_if_there q.user + one_if_there q.number

-- the bytes begin with the members that each reply has, as they are of this reply without others
pub record HasFront (q : Assertion) (bs rest : List ℕ) : Type 0 where
  pub id : IsIdSize q.credential
  pub auth_data : length q.auth_data < 2 ^ 64
  pub signature : length q.signature < 2 ^ 64
  pub user : q.user ≡ None
  pub number : q.number ≡ None
  pub spelled : bs ≡ required_bytes q ++ rest
