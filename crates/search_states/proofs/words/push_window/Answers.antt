use Rattle.kernel.specs.Machine.{picture}
use Rattle.search_needs.specs.Table.{need_of}
use Rattle.search_states.proofs.SetLemmas.{no_words}
use Rattle.search_states.proofs.words.push_window.Goals as goal

pub returns-then-needed_words-eq0 : goal.returns-then-needed_words-eq0
returns-then-needed_words-eq0 g c =
    no_words c.args.out.now.items ((need_of c.args.needs.now).words c.args.owner.now)
    ((picture c.args.machine.now).words c.args.owner.now) c.needed_words.result
    c.if-needed_words-eq0.true c.needed_words.ensures
