-- The numbers of this product's refusals. Running out of memory has none.
use Rattle.std.specs.Prelude.{ℕ, Option, Some, None}
use Rattle.client.specs.declared.error.RequestError.{RequestError}
use Rattle.client.specs.declared.error.RequestError.TheVariants as requests
use Rattle.client.specs.declared.error.ResponseError.{ResponseError}
use Rattle.client.specs.declared.error.ResponseError.TheVariants as responses

abbrev pub request_number : RequestError → Option ℕ
request_number requests.BadOrigin = Some 19
request_number requests.RpIdNotOfOrigin = Some 20
request_number requests.Unfit = Some 1
request_number requests.TooLong = Some 4
request_number requests.Memory = None

abbrev pub response_number : ResponseError → Option ℕ
response_number responses.Unfit = Some 1
response_number responses.Memory = None
