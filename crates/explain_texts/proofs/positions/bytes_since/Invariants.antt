use Rattle.std.proofs.Common.{◌≡◌, ◌≤◌, drop}
use Rattle.explain_texts.specs.Positions.{bytes_since}
use Rattle.explain_texts.proofs.positions.bytes_since.Given as goal

abbrev pub invariant-text : goal.invariant-text
invariant-text l =
    record {
      small : l.since ≤ l.byte-index;
      whole : bytes_since l.since (drop l.byte-index l.text) ≡ bytes_since 0 l.text;
    }
