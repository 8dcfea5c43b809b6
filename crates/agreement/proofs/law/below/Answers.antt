-- What is owed of `below`.
use Rattle.agreement.proofs.law.below.Goals as goal

pub returns : goal.returns
returns g c = λ verifier public. record {
  links = record {
    frames = c.one_frame_list.ensures;
    comes = c.whole_request.ensures.comes;
    quiet = c.whole_request.ensures.quiet;
    kept = c.whole_request.ensures.kept;
    answered = c.whole_request.ensures.answered;
    one_state = c.one_history.ensures.one_state;
    most = c.one_history.ensures.most;
    carried = c.one_outcome.ensures.carried;
  };
  readings = record {
    one_object = c.one_object.ensures;
    one_value = c.one_reading.ensures.one_value;
    one_front = c.one_reading.ensures.one_front;
    taken = c.profiles.ensures.taken;
  };
  challenge_texts = c.challenge_texts.ensures;
  sites = c.site_laws.ensures verifier;
  steps = c.step_laws.ensures verifier public;
  saving = c.saving_laws.ensures;
}
