use Rattle.running.proofs.EndLaws.{tried}
use Rattle.running.proofs.check_with.Goals as goal

pub returns : goal.returns
returns c =
    tried c.args.text.now c.args.book.now c.run_over-a.new.book _ c.min-m.result c.args.most c.run_over-a.result
    c.min-m.ensures c.requires.loan.book_short c.run_over-a.auto.book c.run_over-a.ensures c.finish.ensures
