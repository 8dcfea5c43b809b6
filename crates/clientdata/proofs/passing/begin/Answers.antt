-- What is owed of `begin`.
use Rattle.std.proofs.Common.{◌≡◌, ◌∙◌, ◌∷◌, ap, arith, true, false}
use Rattle.std.specs.Prelude.{is_some}
use Rattle.json.specs.Reads.{token_of}
use Rattle.json.specs.declared.token.Token.{Token}
use Rattle.serde_json.specs.Read.{number_of}
use Rattle.clientdata.specs.Passing.{passed, resumed}
use Rattle.clientdata.proofs.Around.{resumed-whole, resumed-none, resumed-enters, passed-string, passed-boolean, passed-null, passed-number, passed-large, passed-end_object, passed-end_array, passed-key, passed-bad, passed-too_deep, passed-object, passed-array}
use Rattle.clientdata.proofs.passing.begin.Goals as goal

pub returns-in-String-clause-left : goal.returns-in-String-clause-left
returns-in-String-clause-left c = λ ts.
    ap (λ (t : Token). resumed c.args.depth c.args.around.now (token_of t ∷ ts)) c.in-String.is ∙ resumed-whole _ _ _ ts (λ d. passed-string d _ ts)

pub returns-then-is_taken-clause-left : goal.returns-then-is_taken-clause-left
returns-then-is_taken-clause-left c = λ ts.
    let taken : is_some (number_of c.in-Number.text.now) ≡ true = grind arith in
    ap (λ (t : Token). resumed c.args.depth c.args.around.now (token_of t ∷ ts)) c.in-Number.is ∙ resumed-whole _ _ _ ts (λ d. passed-number d _ ts taken)

pub returns-else-is_taken-clause-left : goal.returns-else-is_taken-clause-left
returns-else-is_taken-clause-left c = λ ts.
    let large : is_some (number_of c.in-Number.text.now) ≡ false = grind arith in
    ap (λ (t : Token). resumed c.args.depth c.args.around.now (token_of t ∷ ts)) c.in-Number.is ∙ resumed-none _ _ _ (passed-large _ _ ts large)

pub returns-in-Bool-clause-left : goal.returns-in-Bool-clause-left
returns-in-Bool-clause-left c = λ ts.
    ap (λ (t : Token). resumed c.args.depth c.args.around.now (token_of t ∷ ts)) c.in-Bool.is ∙ resumed-whole _ _ _ ts (λ d. passed-boolean d _ ts)

pub returns-in-Null-clause-left : goal.returns-in-Null-clause-left
returns-in-Null-clause-left c = λ ts.
    ap (λ (t : Token). resumed c.args.depth c.args.around.now (token_of t ∷ ts)) c.in-Null.is ∙ resumed-whole _ _ _ ts (λ d. passed-null d ts)

pub returns-in-EndObject-clause-left : goal.returns-in-EndObject-clause-left
returns-in-EndObject-clause-left c = λ ts.
    ap (λ (t : Token). resumed c.args.depth c.args.around.now (token_of t ∷ ts)) c.in-EndObject.is ∙ resumed-none _ _ _ (passed-end_object _ ts)

pub returns-in-EndArray-clause-left : goal.returns-in-EndArray-clause-left
returns-in-EndArray-clause-left c = λ ts.
    ap (λ (t : Token). resumed c.args.depth c.args.around.now (token_of t ∷ ts)) c.in-EndArray.is ∙ resumed-none _ _ _ (passed-end_array _ ts)

pub returns-in-Key-clause-left : goal.returns-in-Key-clause-left
returns-in-Key-clause-left c = λ ts.
    ap (λ (t : Token). resumed c.args.depth c.args.around.now (token_of t ∷ ts)) c.in-Key.is ∙ resumed-none _ _ _ (passed-key _ _ ts)

pub returns-in-Bad-clause-left : goal.returns-in-Bad-clause-left
returns-in-Bad-clause-left c = λ ts.
    ap (λ (t : Token). resumed c.args.depth c.args.around.now (token_of t ∷ ts)) c.in-Bad.is ∙ resumed-none _ _ _ (passed-bad _ ts)

pub returns-in-BeginObject-clause-left : goal.returns-in-BeginObject-clause-left
returns-in-BeginObject-clause-left c =
    resumed-enters _ _ _ _ (token_of c.args.token)
    (λ d ts some. ap (λ (t : Token). passed d (token_of t ∷ ts)) c.in-BeginObject.is ∙ passed-object d ts some)
    (λ d ts none. ap (λ (t : Token). passed d (token_of t ∷ ts)) c.in-BeginObject.is ∙ (passed-too_deep d ts none).0)
    c.enter.result c.enter.ensures.opened c.enter.ensures.too_deep

pub returns-in-BeginArray-clause-left : goal.returns-in-BeginArray-clause-left
returns-in-BeginArray-clause-left c =
    resumed-enters _ _ _ _ (token_of c.args.token)
    (λ d ts some. ap (λ (t : Token). passed d (token_of t ∷ ts)) c.in-BeginArray.is ∙ passed-array d ts some)
    (λ d ts none. ap (λ (t : Token). passed d (token_of t ∷ ts)) c.in-BeginArray.is ∙ (passed-too_deep d ts none).1)
    c.enter-in-BeginArray.result c.enter-in-BeginArray.ensures.opened c.enter-in-BeginArray.ensures.too_deep
