-- `leximin::is_below` meets its contract: the products fit.
use borrow.Author.Rules.{rules}
use Rattle.fairness.proofs.Products.{product-fits}
use Rattle.leximin.proofs.is_below.Goals as goal

pub overflow_mul-result : goal.overflow_mul-result
overflow_mul-result c = search (rules, product-fits)

pub overflow_mul-result-2 : goal.overflow_mul-result-2
overflow_mul-result-2 c = search (rules, product-fits)
