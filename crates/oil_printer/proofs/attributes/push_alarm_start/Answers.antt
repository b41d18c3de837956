use Rattle.std.specs.String.{string_bytes}
use Rattle.std.specs.Prelude.{codes}
use Rattle.oil_reader.specs.Grammar.{Named}
use Rattle.oil_printer.specs.Layout.{block_start, sub_text}
use Rattle.oil_printer.specs.Printed.{setting}
use Rattle.oil_printer.proofs.LayoutLemmas.{begun, block_closed, more, one}
use Rattle.oil_printer.proofs.attributes.push_alarm_start.Goals as goal

pub returns-in_ok-push_subs-in-Some : goal.returns-in_ok-push_subs-in-Some
returns-in_ok-push_subs-in-Some c =
    let t0 = begun sub_text (string_bytes c.args.text.now) (block_start (setting (codes "AUTOSTART") (Named (codes "TRUE")))) (string_bytes c.open_block.new.text) c.in_ok-open_block-in-Some.ensures in
    let t1 = one sub_text _ _ _ _ _ _ t0 c.in_ok-push_number_sub-in-Some.ensures in
    let t2 = one sub_text _ _ _ _ _ _ t1 c.in_ok-push_number_sub-in-Some-2.ensures in
    let t3 = more sub_text _ _ _ _ _ _ t2 (rw c.deref.ensures.value at c.in_ok-push_subs-in-Some.ensures) in
    rw (c.in-Some.is, ← c.start.view_is) (block_closed c.close_block.result _ _ _ _ _ _ t3 c.close_block.ensures)
