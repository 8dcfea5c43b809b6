-- What a request says of the user's verification.
use Rattle.std.proofs.Common.{◌≡◌, ◌≤◌, ℕ, inl, List, [], ◌∷◌, Option, Some, Bool, length, sym, subst, arith}
use Rattle.pin_key_messages.specs.Protected.{IsProtection, Protection}
use Rattle.key_device.specs.Reading.{ByParam, ReadsParam, ReadsProtected}
use Rattle.key_device.specs.declared.reading.Reading.{Reading}

pub by_more : (bs : List ℕ) (q : Protection) (param : List ℕ) (r : Reading) → 1 ≤ length param → ReadsProtected bs q param r
    → (needs_token : Bool) → ByParam needs_token bs q (Some param) r
by_more bs q [] r some h = absurd (omega (arith, some))
by_more bs q (b ∷ param) r some h = λ needs_token. h

pub by_shown : (needs_token : Bool) (bs : List ℕ) (q : Protection) (param : List ℕ) (r : Reading) → IsProtection q bs → q.param ≡ Some param
    → ((b : Bool) → ByParam b bs q (Some param) r) → ReadsParam needs_token bs r
by_shown needs_token bs q param r is e h = inl (q, is, subst (λ (o : Option (List ℕ)). ByParam needs_token bs q o r) (sym e) (h needs_token))
