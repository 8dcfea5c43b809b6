-- What a sign-in is judged by where it began as a text, and where the site kept it (WebAuthn Level 2, section 7.2).
use Rattle.std.specs.Prelude.{◌≡◌, ℕ, List, Some, IfSome}
use Rattle.std.specs.List.{AllByRecursion}
use Rattle.verification.specs.Records.{Credential, ExpectedSignIn}
use Rattle.verification.specs.SignIn.{JudgedSignIn}
use Rattle.site_seal.specs.Seal.{id_hash, user_hash}

-- no other user's and no other id's hash is the one of this handle, of this id: that HMAC tells them apart
pub record TellsApart (key : List ℕ) (e : ExpectedSignIn) (handle id : List ℕ) : Type 0 where
  pub user : IfSome e.user (λ u. user_hash key e.challenge u ≡ user_hash key e.challenge handle → u ≡ handle)
  pub ids : AllByRecursion (λ i. id_hash key e.challenge i ≡ id_hash key e.challenge id → i ≡ id) e.allow

-- the same response, judged by what this session expects and this credential
abbrev pub judged_by : JudgedSignIn → ExpectedSignIn → Credential → JudgedSignIn
judged_by x e c = record { rp = x.rp; session = Some e; credential = Some c; response = x.response }
