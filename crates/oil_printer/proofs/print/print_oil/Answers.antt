use Rattle.std.proofs.Common.{◌≡◌, ℕ, List, [], subst, sym}
use Rattle.std.specs.String.{string_bytes}
use Rattle.oil_reader.specs.Faults.{Means}
use Rattle.oil_printer.specs.Printed.{printed}
use Rattle.oil_reader.specs.Checked.{CheckedParts}
use Rattle.oil_printer.proofs.ReadAgain.{parts_mean}
use Rattle.oil_printer.specs.Layout.{file_start, file_text, object_text}
use Rattle.oil_printer.proofs.LayoutLemmas.{begun, ended, more, one}
use Rattle.oil_printer.proofs.print.print_oil.Goals as goal

pub returns : goal.returns
unfolding file_text
returns c =
    let t0 = begun object_text [] (file_start c.args.file.now.cpu) (string_bytes c.open_file.new.text) (rw (c.new-text.ensures.bytes, c.cpu.ensures.value) at c.in_ok-open_file.ensures) in
    let t1 = one object_text _ _ _ _ _ _ t0 (rw c.os.ensures.value at c.in_ok-push_os.ensures) in
    let t2 = more object_text _ _ _ _ _ _ t1 (rw c.app_modes.ensures.value at c.in_ok-push_all.ensures) in
    let t3 = more object_text _ _ _ _ _ _ t2 (rw c.tasks.ensures.value at c.in_ok-push_all-2.ensures) in
    let t4 = more object_text _ _ _ _ _ _ t3 (rw c.routines.ensures.value at c.in_ok-push_all-3.ensures) in
    let t5 = more object_text _ _ _ _ _ _ t4 (rw c.resources.ensures.value at c.in_ok-push_all-4.ensures) in
    let t6 = more object_text _ _ _ _ _ _ t5 (rw c.events.ensures.value at c.in_ok-push_all-5.ensures) in
    let t7 = more object_text _ _ _ _ _ _ t6 (rw c.counters.ensures.value at c.in_ok-push_all-6.ensures) in
    let t8 = more object_text _ _ _ _ _ _ t7 (rw c.alarms.ensures.value at c.in_ok-push_all-7.ensures) in
    let text = ended object_text _ _ _ _ _ _ t8 c.in_ok-close_file.ensures in
    let parts : CheckedParts c.args.file.now = record {
      cpu = rw c.cpu.ensures.value at c.cpu.ensures.checked;
      os = rw c.os.ensures.value at c.os.ensures.checked;
      app_modes = rw c.app_modes.ensures.value at c.app_modes.ensures.checked;
      tasks = rw c.tasks.ensures.value at c.tasks.ensures.checked;
      routines = rw c.routines.ensures.value at c.routines.ensures.checked;
      resources = rw c.resources.ensures.value at c.resources.ensures.checked;
      events = rw c.events.ensures.value at c.events.ensures.checked;
      counters = rw c.counters.ensures.value at c.counters.ensures.checked;
      alarms = rw c.alarms.ensures.value at c.alarms.ensures.checked;
    } in
    let is : string_bytes c.close_file.new.text ≡ printed c.args.file.now = text in
    record { printed = text; read_again = subst (λ (bytes : List ℕ). Means bytes c.args.file.now) (sym is) (parts_mean c.args.file.now parts) }
