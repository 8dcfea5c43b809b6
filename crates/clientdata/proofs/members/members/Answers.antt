-- What is owed of `members`.
use Rattle.std.proofs.Common.{◌≡◌, None, Some, ◌∙◌, refl, arith, rules}
use Rattle.json.specs.Json.{read_key}
use Rattle.serde_json.specs.Data.{no_members, put}
use Rattle.clientdata.specs.Passing.{members_at}
use Rattle.clientdata.proofs.Turns.{no_key, no_more, one_member, no_member}
use Rattle.clientdata.proofs.members.members.Goals as goal

pub members-init : goal.members-init
members-init c = record { ms = no_members; left = refl; found = c.none-found.ensures }

pub returns-in_err-name : goal.returns-in_err-name
returns-in_err-name c =
    let none : members_at 126 no_members c.args.reader.now ≡ None =
    c.members.invariant.left ∙ no_key 126 c.members.invariant.ms c.members.reader c.in_err-name.ensures.value in
    search rules

pub returns-in_err-take : goal.returns-in_err-take
returns-in_err-take c =
    let named : read_key c.members.reader ≡ Some (Some c.in-Some.name.now, c.next_key.new.self) = grind arith in
    let none : members_at 126 no_members c.args.reader.now ≡ None =
    c.members.invariant.left ∙ no_member 126 c.members.invariant.ms _ c.members.reader _ named c.in_err-take.ensures.value in
    search rules

pub members-preserved : goal.members-preserved
members-preserved c =
    let named : read_key c.members.reader ≡ Some (Some c.in-Some.name.now, c.next_key.new.self) = grind arith in
    let read = c.in_ok-take.ensures.value in
    record {
      ms = put c.in-Some.name.now read.0 c.members.invariant.ms;
      left = c.members.invariant.left ∙ one_member 126 c.members.invariant.ms _ c.members.reader _ _ read.0 named read.1;
      found = read.2 c.members.invariant.ms c.members.invariant.found;
    }

pub returns : goal.returns
returns c =
    let ended : read_key c.members.reader ≡ Some (None, c.next_key.new.self) = grind arith in
    record {
      members = (c.members.invariant.ms, c.members.invariant.left ∙ no_more 126 c.members.invariant.ms c.members.reader _ ended, c.members.invariant.found);
    }
