-- What is owed of `one_text`.
use Rattle.site_seal.proofs.Texts.{one_text_of}
use Rattle.site_seal.proofs.law.one_text.Goals as goal

pub returns : goal.returns
returns c = one_text_of
