-- What is owed of `find`.
use Rattle.std.proofs.Common.{◌≡◌, None, true, false, option_and_then, arith, rules}
use Rattle.json.specs.Reads.{token_of}
use Rattle.clientdata.specs.Passing.{opens_object, whole_of}
use Rattle.clientdata.specs.Reading.{seen_in}
use Rattle.clientdata.proofs.Firsts.{opens}
use Rattle.clientdata.proofs.Slots.{whole_object, whole_and_more, whole_broken, whole_nothing, whole_other}
use Rattle.clientdata.proofs.members.find.Goals as goal

pub returns-in_default : goal.returns-in_default
returns-in_default c = whole_nothing _ c.in_default.ensures.value.0

pub returns-then-not-begins_object : goal.returns-then-not-begins_object
returns-then-not-begins_object c =
    let shut : opens_object (token_of c.in-Some.token) ≡ false = grind arith in
    whole_other _ _ _ c.in-Some.ensures.value shut

pub returns-in_err-found : goal.returns-in_err-found
returns-in_err-found c =
    let begins : opens_object (token_of c.in-Some.token) ≡ true = grind arith in
    let none : option_and_then seen_in (whole_of c.args.reader.now) ≡ None =
    whole_broken _ c.next.new.self (opens _ _ _ c.in-Some.ensures.value begins) c.in_err-found.ensures.members in
    search rules

pub returns-in-None : goal.returns-in-None
returns-in-None c =
    let begins : opens_object (token_of c.in-Some.token) ≡ true = grind arith in
    let read = c.in_ok-found.ensures.members in
    (read.0, whole_object _ c.next.new.self read.0 _ (opens _ _ _ c.in-Some.ensures.value begins) read.1 c.in-None.ensures.value.0, read.2)

pub returns-in-Some-next : goal.returns-in-Some-next
returns-in-Some-next c =
    let begins : opens_object (token_of c.in-Some.token) ≡ true = grind arith in
    let read = c.in_ok-found.ensures.members in
    whole_and_more _ c.next.new.self read.0 _ _ _ (opens _ _ _ c.in-Some.ensures.value begins) read.1 c.in-Some-next.ensures.value
