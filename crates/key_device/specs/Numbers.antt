-- What a refusal of the device's end is reported as, and a load.
use Rattle.authenticator.specs.declared.error.LoadError.{LoadError}
use Rattle.authenticator.specs.declared.error.LoadError.TheVariants as of
use Rattle.security_key.specs.declared.serving.ServeError.{ServeError}
use Rattle.security_key.specs.declared.serving.ServeError.TheVariants as serves
use Rattle.key_device.specs.declared.error.KeyError.{KeyError}
use Rattle.key_device.specs.declared.error.KeyError.TheVariants as errors
use Rattle.key_device.specs.declared.error.KeyLoadError.{KeyLoadError}
use Rattle.key_device.specs.declared.error.KeyLoadError.TheVariants as loads

abbrev pub told_as : ServeError → KeyError
told_as serves.NotWorking = errors.NotWorking
told_as serves.Memory = errors.Memory

abbrev pub told_of_load : LoadError → KeyLoadError
told_of_load of.BadAuthenticator = loads.BadAuthenticator
told_of_load of.Memory = loads.Memory
