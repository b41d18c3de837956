use Rattle.task_asm.proofs.tokens.number.Goals as goal

pub returns-in_err-number : goal.returns-in_err-number
returns-in_err-number c = rw c.from_residual.ensures (λ n t p. c.in_err-number.ensures.none n p.1 (record { run = p.0; numeral = p.2 }))
