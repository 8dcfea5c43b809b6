-- What is owed of `one_asking`.
use Rattle.std.proofs.Common.{◌≡◌, ℕ, sym, ◌∙◌, ap, subst}
use Rattle.hidframe.specs.declared.ctaphid.TheConstants.{CTAPHID_CBOR}
use Rattle.hidframe.specs.Frames.{ZeroFrames}
use Rattle.client.specs.Asked.{ClientCall, Sent, Asks}
use Rattle.client.proofs.Messages.{one_message}
use Rattle.client.proofs.law.one_asking.Goals as goal

same_sent : (out other : Sent) → out.client_data ≡ other.client_data → out.packets ≡ other.packets → out ≡ other
same_sent out other texts packets = ap (λ t. record { client_data = t; packets = out.packets }) texts
    ∙ ap (λ ps. record { client_data = other.client_data; packets = ps }) packets

one : (x : ClientCall) (c : ℕ) (out other : Sent) → Asks x c out → Asks x c other → out ≡ other
one x c out other a b =
    let messages : b.message ≡ a.message = one_message x.request b.message a.message b.written.0 a.written.0 in
    let frames : ZeroFrames c CTAPHID_CBOR a.message other.packets = subst (λ m. ZeroFrames c CTAPHID_CBOR m other.packets) messages b.packets.frames in
    same_sent out other (a.client_data ∙ sym b.client_data) (sym (a.packets.only other.packets frames))

pub returns : goal.returns
returns c = one
