use Rattle.oil_printer.specs.Layout.{attribute_text, object_text}
use Rattle.oil_printer.proofs.LayoutLemmas.{begun, closed, one}
use Rattle.oil_printer.proofs.attributes.push_os.Goals as goal

pub returns : goal.returns
unfolding object_text
returns c =
    let t0 = begun attribute_text _ _ _ c.in_ok-open_object.ensures in
    let t1 = one attribute_text _ _ _ _ _ _ t0 c.in_ok-push_line.ensures in
    let t2 = one attribute_text _ _ _ _ _ _ t1 c.in_ok-push_switch.ensures in
    let t3 = one attribute_text _ _ _ _ _ _ t2 c.in_ok-push_switch-2.ensures in
    let t4 = one attribute_text _ _ _ _ _ _ t3 c.in_ok-push_switch-3.ensures in
    let t5 = one attribute_text _ _ _ _ _ _ t4 c.in_ok-push_switch-4.ensures in
    let t6 = one attribute_text _ _ _ _ _ _ t5 c.in_ok-push_switch-5.ensures in
    let t7 = one attribute_text _ _ _ _ _ _ t6 c.in_ok-push_switch-6.ensures in
    rw (← c.os.view_is) (closed attribute_text _ _ c.close_object.result _ _ _ _ t7 c.close_object.ensures)
