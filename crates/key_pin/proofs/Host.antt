-- What a host answered, and what it is asked, as steps.
use Rattle.std.proofs.Common.{◌≡◌, ◌≢◌, ℕ, List, length, Bool, cond, Some, None, Result, Ok, Err, refl, sym, ap, subst, ◌∙◌, inl, inr}
use Rattle.std.specs.Str.{bytes_eq}
use Rattle.sha2.specs.Sha256.{sha256}
use Rattle.std.proofs.lemmas.Bool.{eq-eqb, ne_eqb}
use Rattle.pin_client_messages.specs.Commands.{PublicPoint}
use Rattle.pin_protocols.specs.declared.protocol.Protocol.{Protocol}
use Rattle.pin_protocols.specs.declared.protocol.Protocol.TheVariants as protocols
use Rattle.pin_protocols.specs.declared.stop.Stop.{Stop}
use Rattle.pin_protocols.specs.declared.stop.Stop.TheVariants as stops
use Rattle.pin_protocols.specs.Asks.{Asked, Answered, Stops, answer_of, answer_size, ask_view}
use Rattle.pin_protocols.specs.Protocols.{IsProduct, IsSecret, IsDerivation, SharedSecret, Authenticates, product_ask, derivation, hmac_info, aes_info, authentication, shortened}
use Rattle.key_pin.specs.declared.end.End.{End}
use Rattle.key_pin.specs.declared.end.End.TheVariants as ends
use Rattle.key_pin.specs.Host.{Ending, asks, refused, ◌>>=◌, answer, sized_answer, product, secret, verified}
use Rattle.key_pin.specs.Pieces.{Fails, of_stop, of_product_stop}

abbrev pub failed : {A : Type 0} → Ending → Result A Ending
failed e = Err e

sized : (size status : ℕ) (a : Asked) (b : List ℕ) → length b ≡ size → sized_answer size status a (Some b) ≡ Ok b
sized size status a b e = rw (eq-eqb (length b) size e) refl

other_size : (size status : ℕ) (a : Asked) (b : List ℕ) → length b ≢ size → sized_answer size status a (Some b) ≡ Err (refused status)
other_size size status a b e = rw (ne_eqb (length b) size e) refl

pub answered_is : (es : List (Asked × List ℕ)) (a : Asked) (b : List ℕ) → Answered es a b → answer es a ≡ Ok b
unfolding answer
answered_is es a b h = ap (sized_answer (answer_size a.operation (length a.text)) 0x7f a) h.0 ∙ sized _ _ a b h.1

asked_is : (es : List (Asked × List ℕ)) (a b : Asked) → b ≡ a → answer_of es b ≡ None → answer es a ≡ Err (asks b)
unfolding answer
asked_is es a b e none =
    ap (sized_answer (answer_size a.operation (length a.text)) 0x7f a) (subst (λ (x : Asked). answer_of es x ≡ None) e none) ∙ ap (λ (x : Asked). Err (asks x)) (sym e)

faulty_is : (es : List (Asked × List ℕ)) (a x : Asked) (b : List ℕ) → x ≡ a → answer_of es x ≡ Some b → length b ≢ answer_size x.operation (length x.text)
    → answer es a ≡ Err (refused 0x7f)
unfolding answer
faulty_is es a x b e some size =
    subst (λ (y : Asked). sized_answer (answer_size y.operation (length y.text)) 0x7f y (answer_of es y) ≡ Err (refused 0x7f)) e
    (ap (sized_answer (answer_size x.operation (length x.text)) 0x7f x) some ∙ other_size _ _ x b size)

-- what stops one answer ends the steps
pub stop_is : (es : List (Asked × List ℕ)) (a : Asked) (e : Stop) → Stops es (λ x. x ≡ a) e → Fails (of_stop e) (answer es a)
stop_is es a stops.Memory h = tt
stop_is es a (stops.Asks b) h = asked_is es a (ask_view b) h.0 h.1
stop_is es a stops.BadAnswer h = faulty_is es a h.0 h.2 h.1 h.3 h.4
stop_is es a (stops.Pin f) h = absurd h
stop_is es a stops.Unfit h = absurd h
stop_is es a stops.BadToken h = absurd h

-- ---- the product

pub product_is : (es : List (Asked × List ℕ)) (key : List ℕ) (peer : PublicPoint) (z : List ℕ) → IsProduct es key peer z → product es key peer ≡ Ok z
unfolding product
product_is es key peer z h =
    let e : sized_answer 96 0x02 (product_ask key peer) (answer_of es (product_ask key peer)) ≡ Ok h.0 =
    ap (sized_answer 96 0x02 (product_ask key peer)) h.1.0 ∙ sized 96 0x02 (product_ask key peer) h.0 h.1.1 in
    rw (e, h.2) refl

pub product_asked : (es : List (Asked × List ℕ)) (key : List ℕ) (peer : PublicPoint) (b : Asked) → b ≡ product_ask key peer → answer_of es b ≡ None
    → product es key peer ≡ Err (asks b)
unfolding product
product_asked es key peer b e none =
    let n : answer_of es (product_ask key peer) ≡ None = subst (λ (x : Asked). answer_of es x ≡ None) e none in
    let s : sized_answer 96 0x02 (product_ask key peer) (answer_of es (product_ask key peer)) ≡ Err (asks b) =
    ap (sized_answer 96 0x02 (product_ask key peer)) n ∙ ap (λ (x : Asked). failed (asks x)) (sym e) in
    rw s refl

pub no_product : (es : List (Asked × List ℕ)) (key : List ℕ) (peer : PublicPoint) (x : Asked) (b : List ℕ) → x ≡ product_ask key peer → answer_of es x ≡ Some b
    → length b ≢ answer_size x.operation (length x.text) → product es key peer ≡ Err (refused 0x02)
unfolding product
no_product es key peer x b e some size =
    let n : answer_of es (product_ask key peer) ≡ Some b = subst (λ (x : Asked). answer_of es x ≡ Some b) e some in
    let m : length b ≢ 96 = subst (λ (x : Asked). length b ≢ answer_size x.operation (length x.text)) e size in
    let s : sized_answer 96 0x02 (product_ask key peer) (answer_of es (product_ask key peer)) ≡ Err (refused 0x02) =
    ap (sized_answer 96 0x02 (product_ask key peer)) n ∙ other_size 96 0x02 (product_ask key peer) b m in
    rw s refl

pub product_stop : (es : List (Asked × List ℕ)) (key : List ℕ) (peer : PublicPoint) (e : Stop) → Stops es (λ x. x ≡ product_ask key peer) e
    → Fails (of_product_stop e) (product es key peer)
product_stop es key peer stops.Memory h = tt
product_stop es key peer (stops.Asks b) h = product_asked es key peer (ask_view b) h.0 h.1
product_stop es key peer stops.BadAnswer h = no_product es key peer h.0 h.2 h.1 h.3 h.4
product_stop es key peer (stops.Pin f) h = absurd h
product_stop es key peer stops.Unfit h = absurd h
product_stop es key peer stops.BadToken h = absurd h

-- ---- the secret

abbrev good : SharedSecret → Result SharedSecret Ending
good s = Ok s

pub secret_is : (es : List (Asked × List ℕ)) (protocol : Protocol) (z : List ℕ) (s : SharedSecret) → IsSecret es protocol z s → secret es protocol z ≡ Ok s
unfolding secret
secret_is es protocols.One z s h = ap (λ (x : List ℕ). good (record { hmac = x; aes = sha256 z })) (sym h.0) ∙ ap (λ (x : List ℕ). good (record { hmac = s.hmac; aes = x })) (sym h.1)
secret_is es protocols.Two z s h = rw (answered_is es (derivation z hmac_info) s.hmac h.0, answered_is es (derivation z aes_info) s.aes h.1) refl

secret_asked : (es : List (Asked × List ℕ)) (z : List ℕ) (b : Asked) → answer_of es b ≡ None → IsDerivation es protocols.Two z b → secret es protocols.Two z ≡ Err (asks b)
unfolding secret
secret_asked es z b none (inl e) = rw (asked_is es (derivation z hmac_info) b e none) refl
secret_asked es z b none (inr h) = rw (answered_is es (derivation z hmac_info) h.0 h.1, asked_is es (derivation z aes_info) b h.2 none) refl

secret_faulty : (es : List (Asked × List ℕ)) (z : List ℕ) (x : Asked) (b : List ℕ) → answer_of es x ≡ Some b → length b ≢ answer_size x.operation (length x.text)
    → IsDerivation es protocols.Two z x → secret es protocols.Two z ≡ Err (refused 0x7f)
unfolding secret
secret_faulty es z x b some size (inl e) = rw (faulty_is es (derivation z hmac_info) x b e some size) refl
secret_faulty es z x b some size (inr h) = rw (answered_is es (derivation z hmac_info) h.0 h.1, faulty_is es (derivation z aes_info) x b h.2 some size) refl

two_stop : (es : List (Asked × List ℕ)) (z : List ℕ) (e : Stop) → Stops es (IsDerivation es protocols.Two z) e → Fails (of_stop e) (secret es protocols.Two z)
two_stop es z stops.Memory h = tt
two_stop es z (stops.Asks b) h = secret_asked es z (ask_view b) h.1 h.0
two_stop es z stops.BadAnswer h = secret_faulty es z h.0 h.2 h.3 h.4 h.1
two_stop es z (stops.Pin f) h = absurd h
two_stop es z stops.Unfit h = absurd h
two_stop es z stops.BadToken h = absurd h

one_stop : (es : List (Asked × List ℕ)) (z : List ℕ) (e : Stop) → Stops es (IsDerivation es protocols.One z) e → Fails (of_stop e) (secret es protocols.One z)
one_stop es z stops.Memory h = tt
one_stop es z (stops.Asks b) h = absurd h.0
one_stop es z stops.BadAnswer h = absurd h.1
one_stop es z (stops.Pin f) h = absurd h
one_stop es z stops.Unfit h = absurd h
one_stop es z stops.BadToken h = absurd h

pub secret_stop : (es : List (Asked × List ℕ)) (protocol : Protocol) (z : List ℕ) (e : Stop) → Stops es (IsDerivation es protocol z) e → Fails (of_stop e) (secret es protocol z)
secret_stop es protocols.One z e h = one_stop es z e h
secret_stop es protocols.Two z e h = two_stop es z e h

-- ---- a tag

fails_then : {A B : Type 0} (e : End) (r : Result A Ending) (f : A → Result B Ending) → Fails e r → Fails e (r >>= f)
fails_then ends.Memory r f h = tt
fails_then (ends.Asks a) r f h = rw h refl
fails_then (ends.Refused status) r f h = rw h refl

pub tag_stop : (es : List (Asked × List ℕ)) (protocol : Protocol) (key message param : List ℕ) (e : Stop) → Stops es (λ x. x ≡ authentication key message) e
    → Fails (of_stop e) (verified es protocol key message param)
unfolding verified
tag_stop es protocol key message param e h =
    fails_then (of_stop e) (answer es (authentication key message)) (λ tag. cond (bytes_eq (shortened protocol tag) param) (Ok tt) (Err (refused 0x33))) (stop_is es (authentication key message) e h)

pub tag_is : (es : List (Asked × List ℕ)) (protocol : Protocol) (key message param tag : List ℕ) (b : Bool) → Authenticates es protocol key message tag → bytes_eq tag param ≡ b
    → verified es protocol key message param ≡ cond b (Ok tt) (Err (refused 0x33))
unfolding verified
tag_is es protocol key message param tag b h e =
    let same : bytes_eq (shortened protocol h.0) param ≡ b = ap (λ (t : List ℕ). bytes_eq t param) (sym h.2) ∙ e in
    rw (answered_is es (authentication key message) h.0 h.1, same) refl
