-- What is owed of `verify`.
use Rattle.pin_protocols.specs.Asks.{entries}
use Rattle.key_pin.specs.declared.words.Grant.TheVariants as grants
use Rattle.key_pin.specs.Grants.{claim}
use Rattle.key_pin.specs.State.{pin_view}
use Rattle.key_pin.proofs.Asked.{new_grant}
use Rattle.key_pin.proofs.state.ClientPin.verify.Goals as goal

pub returns-in-Err-Asks-clause-asks : goal.returns-in-Err-Asks-clause-asks
returns-in-Err-Asks-clause-asks c =
    new_grant (entries c.args.answers.now)
    (claim c.args.protocol c.args.param.now c.args.permission c.args.rp_id.now c.args.client_data_hash.now)
    (pin_view c.args.self.now).token (grants.Asks c.in-Err-Asks.ask) (rw c.in-Err-Asks.field-0-is at c.in-Err-Asks.ensures)
