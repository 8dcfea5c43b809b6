-- A request that is only read has been granted nothing.
use Rattle.std.proofs.Common.{◌≡◌}
use Rattle.key_device.specs.Stages.{stage_of}
use Rattle.key_device.specs.declared.reading.Reading.{Reading}
use Rattle.key_device.specs.declared.reading.Reading.TheVariants as readings
use Rattle.key_device.specs.declared.stage.GrantedRequest.{GrantedRequest}
use Rattle.key_device.specs.declared.stage.Stage.TheVariants as stages

pub read_ungranted : (r : Reading) (g : GrantedRequest) → stage_of r ≡ stages.Granted g → ⊥
read_ungranted (readings.Pin request) g e = absurd cc
read_ungranted readings.AsItIs g e = absurd cc
read_ungranted readings.Touch g e = absurd cc
read_ungranted (readings.Refused s) g e = absurd cc
