-- What the loop of `texts` keeps.
use Rattle.std.proofs.Common.{◌≡◌, take}
use Rattle.verification.specs.Views.{texts_of}
use Rattle.verification.proofs.party.texts.Given as goal

abbrev pub invariant-loop-text : goal.invariant-loop-text
invariant-loop-text l = l.owned.items ≡ texts_of (take l.text-index l.lent)
