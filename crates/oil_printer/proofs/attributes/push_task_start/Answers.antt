use Rattle.std.proofs.Common.{◌≡◌, ◌∙◌, sym, false, List, ℕ, [], ◌∷◌, length, nat_eq, refl}
use Rattle.std.specs.Prelude.{codes}
use Rattle.oil_reader.specs.Grammar.{Named}
use Rattle.oil_reader.specs.declared.table.AttributeName.TheVariants.{StartMode}
use Rattle.oil_printer.specs.Layout.{sub_text}
use Rattle.oil_printer.specs.Printed.{line_with, settings_of, task_start}
use Rattle.oil_printer.proofs.LayoutLemmas.{begun, block_closed, more}
use Rattle.oil_printer.proofs.attributes.push_task_start.Goals as goal

-- some mode makes it TRUE
starts : (modes : List (List ℕ)) → nat_eq (length modes) 0 ≡ false → task_start modes ≡ line_with (codes "AUTOSTART") (Named (codes "TRUE")) (settings_of StartMode modes)
starts [] h = absurd cc
starts (mode ∷ modes) h = refl

pub returns : goal.returns
returns c =
    let t0 = begun sub_text _ _ _ c.in_ok-open_block.ensures in
    let t1 = more sub_text _ _ _ _ _ _ t0 c.in_ok-push_subs.ensures in
    rw (starts c.args.modes.now (sym c.is_empty.ensures ∙ c.if-is_empty.false)) (block_closed c.close_block.result _ _ _ _ _ _ t1 c.close_block.ensures)
