-- `text::decimal` calls itself on the digits before the last. The measure is the number: each call has a digit less.
use Rattle.text.proofs.+decimal.Given as goal

abbrev pub decreases-decimal : goal.decreases-decimal
decreases-decimal l = l.v
