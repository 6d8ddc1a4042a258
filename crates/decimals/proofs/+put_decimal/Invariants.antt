-- The measure is x: the recursion writes the digits of x / 10.
use Rattle.decimals.proofs.+put_decimal.Given as goal

abbrev pub decreases-put_decimal : goal.decreases-put_decimal
decreases-put_decimal l = l.x
