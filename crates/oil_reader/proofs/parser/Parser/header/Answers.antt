use Rattle.std.proofs.Common.{refl, ◌∙◌}
use Rattle.oil_reader.proofs.parser.Parser.header.Goals as goal

pub returns : goal.returns
returns c = (
  c.in_ok-sign-3.ensures.0 ∙ c.in_ok-cpu.ensures.0 ∙ c.in_ok-keyword-2.ensures.0 ∙ c.in_ok-sign-2.ensures.0 ∙ c.in_ok-version.ensures.0 ∙ c.in_ok-sign.ensures.0 ∙ c.in_ok-keyword.ensures.0,
  record {
    p1 = c.in_ok-keyword.field-0;
    p2 = c.in_ok-sign.field-0;
    p3 = c.in_ok-version.field-0;
    p4 = c.in_ok-sign-2.field-0;
    p5 = c.in_ok-keyword-2.field-0;
    p6 = c.in_ok-cpu.field-0-1;
    p7 = c.in_ok-sign-3.field-0;
    spelled = rw (c.in_ok-keyword.ensures.1, c.in_ok-sign.ensures.1, c.in_ok-version.ensures.1, c.in_ok-sign-2.ensures.1, c.in_ok-keyword-2.ensures.1, c.in_ok-cpu.ensures.1, c.in_ok-sign-3.ensures.1) refl;
  },
)
