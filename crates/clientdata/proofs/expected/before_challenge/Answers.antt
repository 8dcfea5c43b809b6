-- What is owed of `before_challenge`.
use Rattle.std.proofs.Common.{refl}
use Rattle.clientdata.specs.Expected.{before_challenge}
use Rattle.clientdata.specs.Serialised.{type_of}
use Rattle.clientdata.specs.declared.record.CeremonyType.TheVariants.{Create, Get}
use Rattle.clientdata.proofs.Plain.{quoted_plain, type_plain}
use Rattle.clientdata.proofs.expected.before_challenge.Goals as goal

pub returns-in-Create : goal.returns-in-Create
unfolding before_challenge
returns-in-Create c = rw (c.in-Create.is, quoted_plain (type_of Create) (type_plain Create)) refl

pub returns-in-Get : goal.returns-in-Get
unfolding before_challenge
returns-in-Get c = rw (c.in-Get.is, quoted_plain (type_of Get) (type_plain Get)) refl
