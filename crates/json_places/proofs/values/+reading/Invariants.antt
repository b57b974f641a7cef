use Rattle.std.proofs.Common.{ℕ, ◌+◌, ◌*◌, ◌≤◌, length}
use Rattle.json_places.proofs.values.+reading.Given as goal

abbrev pub decreases-next_written : goal.decreases-next_written
decreases-next_written l = 3 * l.depth

abbrev pub decreases-rest_of_list : goal.decreases-rest_of_list
decreases-rest_of_list l = 3 * l.depth + 2

abbrev pub decreases-next_member : goal.decreases-next_member
decreases-next_member l = 3 * l.depth + 1

abbrev pub decreases-rest_of_object : goal.decreases-rest_of_object
decreases-rest_of_object l = 3 * l.depth + 2

abbrev pub invariant-rest_of_list-items : goal.invariant-rest_of_list-items
invariant-rest_of_list-items l = length l.reader ≤ length l.initial.reader

abbrev pub decreases-rest_of_list-items : goal.decreases-rest_of_list-items
decreases-rest_of_list-items l = length l.reader

abbrev pub invariant-rest_of_object-members : goal.invariant-rest_of_object-members
invariant-rest_of_object-members l = length l.reader ≤ length l.initial.reader

abbrev pub decreases-rest_of_object-members : goal.decreases-rest_of_object-members
decreases-rest_of_object-members l = length l.reader
