-- Each statement adds its instruction or its program.
use Rattle.std.proofs.Common.{◌++◌, ◌∷◌, [], ◌∙◌, sym, ap, subst, List, ℕ, Option, vec_len}
use Rattle.task_asm.specs.Programs.{Program}
use Rattle.task_asm.specs.declared.program.NamedInstr.{NamedInstr}
use Rattle.task_asm.specs.declared.operands.Title.{Title}
use Rattle.task_asm.specs.declared.instructions.Written.{Written as TheWritten}
use Rattle.task_asm.specs.declared.statements.Item.{Item as TheItem}
use Rattle.task_asm.specs.Statements.{Statement, item_value}
use Rattle.task_asm.proofs.ProgramLemmas.{Built, at_title, at_no_title, at_faulty, at_label, at_unknown}
use Rattle.task_asm.proofs.assembler.programs.Goals as goal
use Rattle.task_asm.proofs.assembler.programs.Goals.{in-Some-title+in_ok-push-in-Program, in_default-title}

said : ℕ → TheItem → Statement
said place i = record { place = place; item = item_value i }

pub statements-preserved-in-Program : goal.statements-preserved-in-Program
unfolding said
statements-preserved-in-Program c =
    let es = c.args.statements.items in
    let ts = c.args.targets.now in
    let m = vec_len c.pop.new.self in
    let place = c.statement.inside.place in
    let kind = c.in-Program.kind in
    let is = sym c.statement.view_is ∙ ap (said place) c.in-Program.is in
    let none = sym c.new-lines-in-Program.ensures.items in
    elim c.match-title.branch [
      | in-Some-title+in_ok-push-in-Program w ↦
          let t = w.in-Some-title.title in
          let some = rw c.in-Program.is at w.in-Some-title.is in
          let named = is ∙ ap (λ (o : Option Title). said place (TheItem.Program kind o)) some in
          let lines = ap (λ (ls : List NamedInstr). let p : Program = record { kind = kind; name = t.name; instructions = ls } in c.statements.programs.items ++ p ∷ []) w.reverse.ensures.items in
          let added = ap (λ v. v.items) w.programs-is ∙ w.in_ok-push-in-Program.ensures.items ∙ lines in
          subst (λ (ls : List NamedInstr). Built es ts c.pop.new.self.items m ls c.match-title.programs.items) none
          (at_title es ts c.statements.statements.items c.pop.new.self.items c.in-Some.statement (vec_len c.statements.statements) m c.statements.lines.items c.statements.programs.items
          c.in-Some.ensures.items c.in-Some.ensures.len c.statements.invariant place kind t named c.match-title.programs.items added)
      | in_default-title w ↦
          let no_title = rw c.in-Program.is at w.in_default-title.is in
          let named = is ∙ ap (λ (o : Option Title). said place (TheItem.Program kind o)) no_title in
          let same = ap (λ v. v.items) (sym w.programs-is) in
          subst (λ (ls : List NamedInstr). Built es ts c.pop.new.self.items m ls c.match-title.programs.items) none
          (subst (λ (ps : List Program). Built es ts c.pop.new.self.items m [] ps) same
          (at_no_title es ts c.statements.statements.items c.pop.new.self.items c.in-Some.statement (vec_len c.statements.statements) m c.statements.lines.items c.statements.programs.items
          c.in-Some.ensures.items c.in-Some.ensures.len c.statements.invariant place kind named))
    ]

pub statements-preserved-in-Instruction-None : goal.statements-preserved-in-Instruction-None
unfolding said
statements-preserved-in-Instruction-None c =
    let place = c.statement.inside.place in
    let none = rw c.in-Instruction-None.is at c.in-Instruction-None.field-0-is in
    at_faulty c.args.statements.items c.args.targets.now c.statements.statements.items c.pop.new.self.items c.in-Some.statement (vec_len c.statements.statements) (vec_len c.pop.new.self)
    c.statements.lines.items c.statements.programs.items c.in-Some.ensures.items c.in-Some.ensures.len c.statements.invariant place
    (sym c.statement.view_is ∙ ap (said place) c.in-Instruction-None.is ∙ ap (λ (o : Option TheWritten). said place (TheItem.Instruction o)) none)

pub statements-preserved-in-Label : goal.statements-preserved-in-Label
unfolding said
statements-preserved-in-Label c =
    let place = c.statement.inside.place in
    at_label c.args.statements.items c.args.targets.now c.statements.statements.items c.pop.new.self.items c.in-Some.statement (vec_len c.statements.statements) (vec_len c.pop.new.self)
    c.statements.lines.items c.statements.programs.items c.in-Some.ensures.items c.in-Some.ensures.len c.statements.invariant place _
    (sym c.statement.view_is ∙ ap (said place) c.in-Label.is)

pub statements-preserved : goal.statements-preserved
unfolding said
statements-preserved c =
    let place = c.statement.inside.place in
    at_unknown c.args.statements.items c.args.targets.now c.statements.statements.items c.pop.new.self.items c.in-Some.statement (vec_len c.statements.statements) (vec_len c.pop.new.self)
    c.statements.lines.items c.statements.programs.items c.in-Some.ensures.items c.in-Some.ensures.len c.statements.invariant place
    (sym c.statement.view_is ∙ ap (said place) c.in-Unknown.is)
