-- What is owed of `Found::take`.
use Rattle.std.proofs.Common.{◌∙◌, refl, ap, option_and_then}
use Rattle.std.specs.Prelude.{codes}
use Rattle.serde_json.specs.Data.{Members}
use Rattle.serde_json.specs.Find.{as_str}
use Rattle.clientdata.specs.Found.{IsFound}
use Rattle.clientdata.specs.Reading.{member_binding, member_crossing, member_top, text_top}
use Rattle.clientdata.proofs.Slots.{apart, set, kept}
use Rattle.clientdata.proofs.members.Found.take.Goals as goal

pub returns-in_ok-self-in-type-clause-value : goal.returns-in_ok-self-in-type-clause-value
returns-in_ok-self-in-type-clause-value c =
    let read = c.in_ok-self-in-type.ensures.value in (
      read.0,
      read.1,
      λ (ms : Members) (f : IsFound c.args.self.now ms). record {
        kind = set (option_and_then as_str) _ (codes "type") _ read.0 ms c.in-type.is (read.2);
        challenge = kept (option_and_then as_str) _ (codes "challenge") _ read.0 ms (apart (codes "type") (codes "challenge") _ refl c.in-type.is) f.challenge;
        origin = kept (option_and_then as_str) _ (codes "origin") _ read.0 ms (apart (codes "type") (codes "origin") _ refl c.in-type.is) f.origin;
        binding = kept (member_binding) _ (codes "tokenBinding") _ read.0 ms (apart (codes "type") (codes "tokenBinding") _ refl c.in-type.is) f.binding;
        cross_origin = kept (member_crossing) _ (codes "crossOrigin") _ read.0 ms (apart (codes "type") (codes "crossOrigin") _ refl c.in-type.is) f.cross_origin;
        top_origin = kept (member_top) _ (codes "topOrigin") _ read.0 ms (apart (codes "type") (codes "topOrigin") _ refl c.in-type.is) f.top_origin;
      },
    )

pub returns-in_ok-self-in-challenge-clause-value : goal.returns-in_ok-self-in-challenge-clause-value
returns-in_ok-self-in-challenge-clause-value c =
    let read = c.in_ok-self-in-challenge.ensures.value in (
      read.0,
      read.1,
      λ (ms : Members) (f : IsFound c.args.self.now ms). record {
        kind = kept (option_and_then as_str) _ (codes "type") _ read.0 ms (apart (codes "challenge") (codes "type") _ refl c.in-challenge.is) f.kind;
        challenge = set (option_and_then as_str) _ (codes "challenge") _ read.0 ms c.in-challenge.is (read.2);
        origin = kept (option_and_then as_str) _ (codes "origin") _ read.0 ms (apart (codes "challenge") (codes "origin") _ refl c.in-challenge.is) f.origin;
        binding = kept (member_binding) _ (codes "tokenBinding") _ read.0 ms (apart (codes "challenge") (codes "tokenBinding") _ refl c.in-challenge.is) f.binding;
        cross_origin = kept (member_crossing) _ (codes "crossOrigin") _ read.0 ms (apart (codes "challenge") (codes "crossOrigin") _ refl c.in-challenge.is) f.cross_origin;
        top_origin = kept (member_top) _ (codes "topOrigin") _ read.0 ms (apart (codes "challenge") (codes "topOrigin") _ refl c.in-challenge.is) f.top_origin;
      },
    )

pub returns-in_ok-self-in-origin-clause-value : goal.returns-in_ok-self-in-origin-clause-value
returns-in_ok-self-in-origin-clause-value c =
    let read = c.in_ok-self-in-origin.ensures.value in (
      read.0,
      read.1,
      λ (ms : Members) (f : IsFound c.args.self.now ms). record {
        kind = kept (option_and_then as_str) _ (codes "type") _ read.0 ms (apart (codes "origin") (codes "type") _ refl c.in-origin.is) f.kind;
        challenge = kept (option_and_then as_str) _ (codes "challenge") _ read.0 ms (apart (codes "origin") (codes "challenge") _ refl c.in-origin.is) f.challenge;
        origin = set (option_and_then as_str) _ (codes "origin") _ read.0 ms c.in-origin.is (read.2);
        binding = kept (member_binding) _ (codes "tokenBinding") _ read.0 ms (apart (codes "origin") (codes "tokenBinding") _ refl c.in-origin.is) f.binding;
        cross_origin = kept (member_crossing) _ (codes "crossOrigin") _ read.0 ms (apart (codes "origin") (codes "crossOrigin") _ refl c.in-origin.is) f.cross_origin;
        top_origin = kept (member_top) _ (codes "topOrigin") _ read.0 ms (apart (codes "origin") (codes "topOrigin") _ refl c.in-origin.is) f.top_origin;
      },
    )

pub returns-in_ok-self-in-tokenBinding-clause-value : goal.returns-in_ok-self-in-tokenBinding-clause-value
returns-in_ok-self-in-tokenBinding-clause-value c =
    let read = c.in_ok-self-in-tokenBinding.ensures.value in (
      read.0,
      read.1,
      λ (ms : Members) (f : IsFound c.args.self.now ms). record {
        kind = kept (option_and_then as_str) _ (codes "type") _ read.0 ms (apart (codes "tokenBinding") (codes "type") _ refl c.in-tokenBinding.is) f.kind;
        challenge = kept (option_and_then as_str) _ (codes "challenge") _ read.0 ms (apart (codes "tokenBinding") (codes "challenge") _ refl c.in-tokenBinding.is) f.challenge;
        origin = kept (option_and_then as_str) _ (codes "origin") _ read.0 ms (apart (codes "tokenBinding") (codes "origin") _ refl c.in-tokenBinding.is) f.origin;
        binding = set (member_binding) _ (codes "tokenBinding") _ read.0 ms c.in-tokenBinding.is (read.2);
        cross_origin = kept (member_crossing) _ (codes "crossOrigin") _ read.0 ms (apart (codes "tokenBinding") (codes "crossOrigin") _ refl c.in-tokenBinding.is) f.cross_origin;
        top_origin = kept (member_top) _ (codes "topOrigin") _ read.0 ms (apart (codes "tokenBinding") (codes "topOrigin") _ refl c.in-tokenBinding.is) f.top_origin;
      },
    )

pub returns-in_ok-self-in-crossOrigin-clause-value : goal.returns-in_ok-self-in-crossOrigin-clause-value
returns-in_ok-self-in-crossOrigin-clause-value c =
    let read = c.in_ok-self-in-crossOrigin.ensures.value in (
      read.0,
      read.1,
      λ (ms : Members) (f : IsFound c.args.self.now ms). record {
        kind = kept (option_and_then as_str) _ (codes "type") _ read.0 ms (apart (codes "crossOrigin") (codes "type") _ refl c.in-crossOrigin.is) f.kind;
        challenge = kept (option_and_then as_str) _ (codes "challenge") _ read.0 ms (apart (codes "crossOrigin") (codes "challenge") _ refl c.in-crossOrigin.is) f.challenge;
        origin = kept (option_and_then as_str) _ (codes "origin") _ read.0 ms (apart (codes "crossOrigin") (codes "origin") _ refl c.in-crossOrigin.is) f.origin;
        binding = kept (member_binding) _ (codes "tokenBinding") _ read.0 ms (apart (codes "crossOrigin") (codes "tokenBinding") _ refl c.in-crossOrigin.is) f.binding;
        cross_origin = set (member_crossing) _ (codes "crossOrigin") _ read.0 ms c.in-crossOrigin.is (read.2);
        top_origin = kept (member_top) _ (codes "topOrigin") _ read.0 ms (apart (codes "crossOrigin") (codes "topOrigin") _ refl c.in-crossOrigin.is) f.top_origin;
      },
    )

pub returns-in_ok-text-in-topOrigin-clause-value : goal.returns-in_ok-text-in-topOrigin-clause-value
returns-in_ok-text-in-topOrigin-clause-value c =
    let read = c.in_ok-text-in-topOrigin.ensures.value in (
      read.0,
      read.1,
      λ (ms : Members) (f : IsFound c.args.self.now ms). record {
        kind = kept (option_and_then as_str) _ (codes "type") _ read.0 ms (apart (codes "topOrigin") (codes "type") _ refl c.in-topOrigin.is) f.kind;
        challenge = kept (option_and_then as_str) _ (codes "challenge") _ read.0 ms (apart (codes "topOrigin") (codes "challenge") _ refl c.in-topOrigin.is) f.challenge;
        origin = kept (option_and_then as_str) _ (codes "origin") _ read.0 ms (apart (codes "topOrigin") (codes "origin") _ refl c.in-topOrigin.is) f.origin;
        binding = kept (member_binding) _ (codes "tokenBinding") _ read.0 ms (apart (codes "topOrigin") (codes "tokenBinding") _ refl c.in-topOrigin.is) f.binding;
        cross_origin = kept (member_crossing) _ (codes "crossOrigin") _ read.0 ms (apart (codes "topOrigin") (codes "crossOrigin") _ refl c.in-topOrigin.is) f.cross_origin;
        top_origin = set (member_top) _ (codes "topOrigin") _ read.0 ms c.in-topOrigin.is (c.top_of-self.ensures ∙ ap text_top read.2);
      },
    )

pub returns-in_ok-text-in_default-clause-value : goal.returns-in_ok-text-in_default-clause-value
returns-in_ok-text-in_default-clause-value c =
    let read = c.in_ok-text-in_default.ensures.value in (
      read.0,
      read.1,
      λ (ms : Members) (f : IsFound c.args.self.now ms). record {
        kind = kept (option_and_then as_str) _ (codes "type") _ read.0 ms c.in_default.not-type f.kind;
        challenge = kept (option_and_then as_str) _ (codes "challenge") _ read.0 ms c.in_default.not-challenge f.challenge;
        origin = kept (option_and_then as_str) _ (codes "origin") _ read.0 ms c.in_default.not-origin f.origin;
        binding = kept (member_binding) _ (codes "tokenBinding") _ read.0 ms c.in_default.not-tokenBinding f.binding;
        cross_origin = kept (member_crossing) _ (codes "crossOrigin") _ read.0 ms c.in_default.not-crossOrigin f.cross_origin;
        top_origin = kept (member_top) _ (codes "topOrigin") _ read.0 ms c.in_default.not-topOrigin f.top_origin;
      },
    )
