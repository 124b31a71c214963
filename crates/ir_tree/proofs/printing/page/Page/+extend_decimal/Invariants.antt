use Rattle.ir_tree.proofs.printing.page.Page.+extend_decimal.Given as goal

abbrev pub decreases-extend_decimal : goal.decreases-extend_decimal
decreases-extend_decimal l = l.number
