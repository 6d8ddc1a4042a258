-- `schedule::page::put_padded` meets its contract. The measure is how many digits there are.
use Rattle.schedule.proofs.page.+put_padded.Given as goal

abbrev pub decreases-put_padded : goal.decreases-put_padded
decreases-put_padded l = l.digits
