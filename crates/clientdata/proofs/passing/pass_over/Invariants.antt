use Rattle.std.proofs.Common.{◌≡◌, ◌≤◌, length, ◌∷◌}
use Rattle.json.specs.Reads.{token_of}
use Rattle.clientdata.specs.Passing.{all_closed, passed}
use Rattle.clientdata.proofs.passing.pass_over.Given as goal

abbrev pub invariant-loop-around : goal.invariant-loop-around
invariant-loop-around l = record {
  within : length l.around ≤ l.depth;
  left : passed l.depth (token_of l.fn.token ∷ l.fn.reader) ≡ all_closed l.depth l.around l.reader;
  shorter : length l.reader ≤ length l.fn.reader;
}

abbrev pub decreases-loop-around : goal.decreases-loop-around
decreases-loop-around l = length l.reader
