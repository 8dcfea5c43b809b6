-- What is owed of `KeyLines::carry_out`.
use Rattle.std.proofs.Common.{Err, refl}
use Rattle.std.proofs.lemmas.Result.{err_from_is_err_and}
use Rattle.key_device.specs.declared.error.KeyError.TheVariants as errors
use Rattle.key_program.proofs.Refusing.{refusal, refused_pin}
use Rattle.key_program.proofs.lines.KeyLines.carry_out.Goals as goal

pub returns-in_err-load_pin-in-LoadPin-clause-refused : goal.returns-in_err-load_pin-in-LoadPin-clause-refused
returns-in_err-load_pin-in-LoadPin-clause-refused c =
    let e = c.in_err-load_pin-in-LoadPin.field-0.0 in
    let n = c.in_err-load_pin-in-LoadPin.ensures in
    let r = c.from_residual-in_err-load_pin-in-LoadPin in
    let p = err_from_is_err_and r.result r.ensures.1 in
    rw (← c.self.view_is) (rw (c.in-LoadPin.is, p.1, p.2) (
      refused_pin c.deref-in-LoadPin.result.now c.in-LoadPin.bytes.items c.self.inside.key (Err e) e c.deref-in-LoadPin.ensures.value refl n.none n.bad n.authenticator n.memory,
      n.unchanged,
    ))

pub returns-in_ok-packet-in-Packet-clause-done : goal.returns-in_ok-packet-in-Packet-clause-done
returns-in_ok-packet-in-Packet-clause-done c = rw (← c.self.view_is) (rw c.in-Packet.is c.in_ok-packet-in-Packet.ensures.taken)

pub returns-in_ok-wait-in-Wait-clause-done : goal.returns-in_ok-wait-in-Wait-clause-done
returns-in_ok-wait-in-Wait-clause-done c = rw (← c.self.view_is) (rw c.in-Wait.is c.in_ok-wait-in-Wait.ensures.waited)

pub returns-in_ok-expire-in-Expire-clause-done : goal.returns-in_ok-expire-in-Expire-clause-done
returns-in_ok-expire-in-Expire-clause-done c = rw (← c.self.view_is) (rw c.in-Expire.is c.in_ok-expire-in-Expire.ensures.expired)

pub returns-in_err-wait-in-Wait-clause-refused : goal.returns-in_err-wait-in-Wait-clause-refused
returns-in_err-wait-in-Wait-clause-refused c =
    let e = c.in_err-wait-in-Wait.field-0.0 in
    let n = c.in_err-wait-in-Wait.ensures in
    let r = c.from_residual-in_err-wait-in-Wait in
    let p = err_from_is_err_and r.result r.ensures.1 in
    rw (← c.self.view_is) (rw (c.in-Wait.is, p.1, p.2) (refusal _ (Err e) errors.NotWorking e refl n.errors n.not_working, n.unchanged))

pub returns-in_err-decide-in-Decide-clause-refused : goal.returns-in_err-decide-in-Decide-clause-refused
returns-in_err-decide-in-Decide-clause-refused c =
    let e = c.in_err-decide-in-Decide.field-0.0 in
    let n = c.in_err-decide-in-Decide.ensures in
    let r = c.from_residual-in_err-decide-in-Decide in
    let p = err_from_is_err_and r.result r.ensures.1 in
    rw (← c.self.view_is) (rw (c.in-Decide.is, p.1, p.2) (refusal _ (Err e) errors.NotWorking e refl n.errors n.not_working, n.unchanged))

pub returns-in_err-compute-in-Compute-clause-refused : goal.returns-in_err-compute-in-Compute-clause-refused
returns-in_err-compute-in-Compute-clause-refused c =
    let e = c.in_err-compute-in-Compute.field-0.0 in
    let n = c.in_err-compute-in-Compute.ensures in
    let r = c.from_residual-in_err-compute-in-Compute in
    let p = err_from_is_err_and r.result r.ensures.1 in
    rw (← c.self.view_is) (rw (c.in-Compute.is, p.1, p.2) (refusal _ (Err e) errors.NotComputing e refl n.errors n.not_computing, n.memory))

pub returns-in_err-answer-in-Answer-clause-refused : goal.returns-in_err-answer-in-Answer-clause-refused
returns-in_err-answer-in-Answer-clause-refused c =
    let e = c.in_err-answer-in-Answer.field-0.0 in
    let n = c.in_err-answer-in-Answer.ensures in
    let r = c.from_residual-in_err-answer-in-Answer in
    let p = err_from_is_err_and r.result r.ensures.1 in
    rw (← c.self.view_is) (rw (c.in-Answer.is, p.1, p.2) (refusal _ (Err e) errors.NotAsking e refl n.errors n.not_asking, n.memory))
