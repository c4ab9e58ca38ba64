use Rattle.text.proofs.Splits.{takes, progress}
use Rattle.text.proofs.words.WordsIterator.next.Goals as goal

pub returns-clause-steps : goal.returns-clause-steps
returns-clause-steps c = rw (← c.self.view_is) (takes _ _ c.next.result c.next.ensures.steps)

pub returns-clause-goes : goal.returns-clause-goes
returns-clause-goes c = progress c.args.self.now _ c.next.result (returns-clause-steps c)
