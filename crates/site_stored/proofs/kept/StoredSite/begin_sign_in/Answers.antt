-- What is owed of `StoredSite::begin_sign_in`.
use Rattle.std.proofs.Common.{ap, map, subst, sym, Err}
use Rattle.std.specs.Prelude.{option_map}
use Rattle.site_rows.proofs.Causes.{passed_up}
use Rattle.site_seal.specs.Seal.{IsSignIn, sealed_sign_in, sign_in}
use Rattle.site_state.specs.Sessions.{IsInput, OpensSignIn}
use Rattle.site_stored.proofs.Beginning.{not_begun, no_number_cause, same_text, seal_not_begun, sealable}
use Rattle.site_stored.proofs.kept.StoredSite.begin_sign_in.Goals as goal

pub returns-in_err-check_number-clause-begins : goal.returns-in_err-check_number-clause-begins
returns-in_err-check_number-clause-begins g c =
    not_begun g.S.Store c.args.self.now _ _ _ c.from_residual.result c.in_err-check_number.field-0.0 c.from_residual.ensures.1
    (c.in_err-check_number.ensures.not
    (OpensSignIn (option_map (λ u. u.now) c.args.user) (map (λ id. id.now) c.args.allow.now) c.args.uv c.args.words))
    (λ t. let same = c.in_err-check_number.ensures.shut t in cc)

pub returns-in_err-check_number-clause-cause : goal.returns-in_err-check_number-clause-cause
returns-in_err-check_number-clause-cause g c = λ clean.
    passed_up c.from_residual.result c.in_err-check_number.field-0.0 _ c.from_residual.ensures.1
    (no_number_cause c.args.self.now (g.S.Store.view c.args.self.now.store) _ _ _ _ c.in_err-check_number.field-0.0 c.in_err-check_number.ensures.not)

pub returns-in_err-text-clause-begins : goal.returns-in_err-text-clause-begins
returns-in_err-text-clause-begins g c =
    not_begun g.S.Store c.args.self.now _ _ _ c.from_residual-in_err-text.result _ c.from_residual-in_err-text.ensures.1
    (seal_not_begun c.args.self.now (OpensSignIn (option_map (λ u. u.now) c.args.user) (map (λ id. id.now) c.args.allow.now) c.args.uv c.args.words)
    c.in_err-text.field-0.0 (λ is. c.in_err-text.ensures.refused (ap Err is)
    (subst IsSignIn (sym c.in_ok-expected.ensures.expected) (sealable _ _ _ _ _ _ c.in_ok-expected.ensures.input))))
    (λ t. let is_open = c.in_ok-check_number.ensures.may.0 in absurd cc)

pub returns-clause-begins : goal.returns-clause-begins
returns-clause-begins g c =
    let o = OpensSignIn (option_map (λ u. u.now) c.args.user) (map (λ id. id.now) c.args.allow.now) c.args.uv c.args.words in
    let time = rw (← c.self.view_is) at c.ends_at-ends.ensures in
    c.begun.ensures.begins o c.args.words c.args.now
    (rw (← c.self.view_is) (ap (λ e. e.challenge) c.in_ok-expected.ensures.expected))
    (rw (← c.self.view_is) (same_text c.self.inside.key _ _ (λ e. sign_in (sealed_sign_in c.self.inside.key e)) c.in_ok-text.text.items _ _ _ _
    c.in_ok-text.ensures.sealed time c.rp_id_hash.ensures c.in_ok-expected.ensures.expected))
    (rw (← c.self.view_is) (subst (λ profile. IsInput profile o) c.profile.ensures c.in_ok-expected.ensures.input))
