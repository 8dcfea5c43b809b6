-- What is owed of `TimedSessions::begin_registration_for`.
use Rattle.std.proofs.Common.{◌≤◌, ap, sym, subst, ◌∙◌}
use Rattle.std.specs.FinMap as finite
use Rattle.site_state.specs.Sessions.{HaveNumbers, IsRefused, Opening, OpensRegistration}
use Rattle.site_state.specs.Timed.{HasRoom, HaveMoments, Timed}
use Rattle.site_state.proofs.Ages.{begun_there, have_begun, have_trimmed, len_begun, room_trimmed, unchanged_there}
use Rattle.authdata.specs.declared.profile.Profile.TheVariants.{Strict}
use Rattle.site_state.proofs.Room.{not_full}
use Rattle.site_state.proofs.timed.TimedSessions.begin_registration_for.Goals as goal

pub trim-requires-clause-moments : goal.trim-requires-clause-moments
trim-requires-clause-moments c =
    let s : Timed = record { open_sessions = c.self.inside.open_sessions; began = c.self.inside.began } in
    let o : Opening = OpensRegistration c.args.user.now c.args.algorithms.now c.args.uv c.args.words c.args.asks in
    let is = begun_there s o c.args.now c.next-number.result c.begin_registration_for.new.self c.insert.new.self c.next-number.ensures.next c.in-Ok.ensures.begun
    c.in_ok-insert.ensures.set in
    subst HaveMoments (sym is) (have_begun s o c.args.now c.self.invariant.0)

pub invariant_of-self-in-Ok : goal.invariant_of-self-in-Ok
invariant_of-self-in-Ok c =
    let s : Timed = record { open_sessions = c.self.inside.open_sessions; began = c.self.inside.began } in
    let o : Opening = OpensRegistration c.args.user.now c.args.algorithms.now c.args.uv c.args.words c.args.asks in
    let is = begun_there s o c.args.now c.next-number.result c.begin_registration_for.new.self c.insert.new.self c.next-number.ensures.next c.in-Ok.ensures.begun
    c.in_ok-insert.ensures.set in
    let t : Timed = record { open_sessions = c.begin_registration_for.new.self; began = c.insert.new.self } in
    let u : Timed = record { open_sessions = c.trim.new.open_sessions; began = c.trim.new.began } in
    let have = subst HaveMoments (sym is) (have_begun s o c.args.now c.self.invariant.0) in
    let most = subst (λ (x : Timed). finite.len x.open_sessions.expected ≤ x.open_sessions.max_open) (sym is)
    (len_begun s o c.args.now c.self.invariant.1) in
    (have_trimmed t u c.trim.ensures.trimmed have, room_trimmed t u c.trim.ensures.trimmed have most)

pub invariant_of-self-in-Err : goal.invariant_of-self-in-Err
invariant_of-self-in-Err c =
    let s : Timed = record { open_sessions = c.self.inside.open_sessions; began = c.self.inside.began } in
    let is = unchanged_there s c.args.now c.next-number.result c.begin_registration_for.new.self c.insert.new.self c.remove.new.self c.next-number.ensures.next
    c.self.invariant.0 (subst (λ n. HaveNumbers n c.self.inside.open_sessions.expected) c.next-number.ensures.next c.next-number.ensures.numbers)
    c.in-Err.ensures.unchanged c.in_ok-insert.ensures.set c.remove.ensures in
    (subst HaveMoments (sym is) c.self.invariant.0, subst HasRoom (sym is) c.self.invariant.1)

pub returns-in-Err-clause-refused : goal.returns-in-Err-clause-refused
returns-in-Err-clause-refused c = λ profile.
    subst (λ s. IsRefused profile s (OpensRegistration c.args.user.now c.args.algorithms.now c.args.uv c.args.words c.args.asks) c.in-Err.why) (ap (λ (s : Timed). s.open_sessions) c.self.view_is) (c.in-Err.ensures.refused profile)

pub returns-in-Err-clause-unchanged : goal.returns-in-Err-clause-unchanged
returns-in-Err-clause-unchanged c =
    let s : Timed = record { open_sessions = c.self.inside.open_sessions; began = c.self.inside.began } in
    unchanged_there s c.args.now c.next-number.result c.begin_registration_for.new.self c.insert.new.self c.remove.new.self c.next-number.ensures.next
    c.self.invariant.0 (subst (λ n. HaveNumbers n c.self.inside.open_sessions.expected) c.next-number.ensures.next c.next-number.ensures.numbers)
    c.in-Err.ensures.unchanged c.in_ok-insert.ensures.set c.remove.ensures ∙ c.self.view_is

pub returns-in-Err-clause-room : goal.returns-in-Err-clause-room
returns-in-Err-clause-room c is =
    let o : Opening = OpensRegistration c.args.user.now c.args.algorithms.now c.args.uv c.args.words c.args.asks in
    not_full Strict c.self.inside.open_sessions o c.in-Err.why c.self.invariant.1 (c.in-Err.ensures.refused Strict) is
