use Rattle.oil_printer.specs.Layout.{attribute_text, object_text}
use Rattle.oil_printer.proofs.LayoutLemmas.{begun, closed, more, one}
use Rattle.oil_printer.proofs.attributes.TaskObjectPrintedObject.push.Goals as goal

pub returns : goal.returns
unfolding object_text
returns c =
    let t0 = begun attribute_text _ _ _ c.in_ok-open_object.ensures in
    let t1 = one attribute_text _ _ _ _ _ _ t0 c.in_ok-push_number_line.ensures in
    let t2 = one attribute_text _ _ _ _ _ _ t1 c.in_ok-push_schedule.ensures in
    let t3 = one attribute_text _ _ _ _ _ _ t2 c.in_ok-push_number_line-2.ensures in
    let t4 = one attribute_text _ _ _ _ _ _ t3 (rw c.deref.ensures.value at c.in_ok-push_task_start.ensures) in
    let t5 = more attribute_text _ _ _ _ _ _ t4 (rw c.deref-2.ensures.value at c.in_ok-push_lines.ensures) in
    let t6 = more attribute_text _ _ _ _ _ _ t5 (rw c.deref-3.ensures.value at c.in_ok-push_lines-2.ensures) in
    rw (← c.self.view_is) (closed attribute_text _ _ c.close_object.result _ _ _ _ t6 c.close_object.ensures)
