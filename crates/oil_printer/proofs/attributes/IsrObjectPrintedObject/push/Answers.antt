use Rattle.oil_printer.specs.Layout.{attribute_text, object_text}
use Rattle.oil_printer.proofs.LayoutLemmas.{begun, closed, one}
use Rattle.oil_printer.proofs.attributes.IsrObjectPrintedObject.push.Goals as goal

pub returns : goal.returns
unfolding object_text
returns c =
    let t0 = begun attribute_text _ _ _ c.in_ok-open_object.ensures in
    let t1 = one attribute_text _ _ _ _ _ _ t0 c.in_ok-push_number_line.ensures in
    let t2 = one attribute_text _ _ _ _ _ _ t1 c.in_ok-push_number_line-2.ensures in
    rw (← c.self.view_is) (closed attribute_text _ _ c.close_object.result _ _ _ _ t2 c.close_object.ensures)
