use Rattle.oil_printer.specs.Layout.{sub_text}
use Rattle.oil_printer.proofs.LayoutLemmas.{begun, block_closed, one}
use Rattle.oil_printer.proofs.attributes.push_action.Goals as goal

pub returns-in_ok-push_sub-in-ActivateTask : goal.returns-in_ok-push_sub-in-ActivateTask
returns-in_ok-push_sub-in-ActivateTask c =
    let t0 = begun sub_text _ _ _ c.in_ok-open_block-in-ActivateTask.ensures in
    let t1 = one sub_text _ _ _ _ _ _ t0 (rw c.as_str.ensures.value at c.in_ok-push_sub-in-ActivateTask.ensures) in
    rw c.in-ActivateTask.is (block_closed c.close_block.result _ _ _ _ _ _ t1 c.close_block.ensures)

pub returns-in_ok-push_sub-in-SetEvent-2 : goal.returns-in_ok-push_sub-in-SetEvent-2
returns-in_ok-push_sub-in-SetEvent-2 c =
    let t0 = begun sub_text _ _ _ c.in_ok-open_block-in-SetEvent.ensures in
    let t1 = one sub_text _ _ _ _ _ _ t0 (rw c.as_str-in-SetEvent.ensures.value at c.in_ok-push_sub-in-SetEvent.ensures) in
    let t2 = one sub_text _ _ _ _ _ _ t1 (rw c.as_str-in-SetEvent-2.ensures.value at c.in_ok-push_sub-in-SetEvent-2.ensures) in
    rw c.in-SetEvent.is (block_closed c.close_block-in-SetEvent.result _ _ _ _ _ _ t2 c.close_block-in-SetEvent.ensures)
