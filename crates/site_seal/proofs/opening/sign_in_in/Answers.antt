-- What is owed of `sign_in_in`.
use Rattle.std.proofs.Common.{◌≡◌, ◌++◌, ◌∷◌, List, ℕ, suc, length, get_or, drop, refl, sym, ap, ◌∙◌, arith}
use Rattle.std.specs.List.{concat}
use Rattle.std.proofs.lemmas.List.{append-nil, drop_more, length-append, length-drop, nil_from_length, take_rest}
use Rattle.site_seal.specs.Seal.{user_bytes}
use Rattle.site_seal.proofs.Bytes.{length-hashes}
use Rattle.site_seal.proofs.Texts.{behind_user}
use Rattle.site_seal.proofs.opening.sign_in_in.Goals as goal
use Rattle.site_seal.proofs.opening.sign_in_in.Goals.{then-count-gt-MAX_LISTED-via-then-count-gt-MAX_LISTED, then-count-gt-MAX_LISTED-via-else-count-gt-MAX_LISTED+then-hashes-count}

pub returns-then-count-gt-MAX_LISTED-clause-none : goal.returns-then-count-gt-MAX_LISTED-clause-none
returns-then-count-gt-MAX_LISTED-clause-none c = λ s is same.
    let rest = c.args.rest.now in
    let behind = c.in-Some-user_in.rest.now in
    let found : drop 1 rest ≡ user_bytes c.in-Some-user_in.user ++ behind = sym (take_rest rest 1) ∙ c.in-Some-user_in.ensures.found.0 in
    let listed = behind_user rest behind c.in-Some-user_in.user found c.in-Some-user_in.ensures.found.1 s is same in
    let count : get_or behind 0 0 ≡ length s.allow = ap (λ (l : List ℕ). get_or l 0 0) listed in
    let long : length behind ≡ suc (length (concat s.allow)) = ap length listed in
    let hashes = length-hashes s.allow is.allow in
    let few = is.count in
    let told = c.from-count.ensures in
    let whole = ap length (take_rest behind 1) in
    let dropped = length-drop 1 behind in
    elim c.then-count-gt-MAX_LISTED.branch [
      | then-count-gt-MAX_LISTED-via-then-count-gt-MAX_LISTED w ↦ absurd (omega (arith, w.if-count-gt-MAX_LISTED.true, count, few, told))
      | then-count-gt-MAX_LISTED-via-else-count-gt-MAX_LISTED+then-hashes-count w ↦ absurd (w.if-hashes-count.true (omega (arith, count, long, hashes, told, whole, dropped)))
    ]

pub returns-clause-found : goal.returns-clause-found
returns-clause-found c =
    let rest = c.args.rest.now in
    let user = c.in-Some-user_in.user in
    let behind = c.in-Some-user_in.rest.now in
    let allow = c.in_ok-hashes_in.field-0.items in
    let joined = c.in_ok-hashes_in.ensures.joined in
    let each = c.in_ok-hashes_in.ensures.each in
    let found : drop 1 rest ≡ user_bytes user ++ behind = sym (take_rest rest 1) ∙ c.in-Some-user_in.ensures.found.0 in
    let first : rest ≡ get_or rest 0 0 ∷ drop 1 rest = drop_more rest 0 0 (omega (arith, c.in-len1-up.len_at_least)) in
    let second : behind ≡ get_or behind 0 0 ∷ drop 1 behind = drop_more behind 0 0 (omega (arith, c.in-len1-up-rest.len_at_least)) in
    let told = c.from-count.ensures in
    let whole = take_rest behind 1 in
    let long = ap length joined.1 in
    let exact = c.if-hashes-count.false in
    let none : length joined.0 ≡ 0 = omega (arith, long, exact, joined.2, length-append (concat allow) joined.0, length-hashes allow each) in
    let count : length allow ≡ get_or behind 0 0 = omega (arith, long, exact, none, told, length-append (concat allow) joined.0, length-hashes allow each) in
    let all : concat allow ≡ drop 1 behind = sym (append-nil (concat allow)) ∙ ap (λ (l : List ℕ). concat allow ++ l) (sym (nil_from_length joined.0 none)) ∙ joined.1 ∙ whole in (
      record { user = c.in-Some-user_in.ensures.found.1; count = omega (arith, count, told, c.if-count-gt-MAX_LISTED.false); allow = each; challenge = c.told-challenge },
      cc (first, c.in-Some.ensures, found, second, count, all),
      refl,
    )
