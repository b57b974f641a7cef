-- What holds at the exit of a `?`, for the crates above.
use Rattle.std.proofs.Common.{◌≡◌, Result, IfErr, IsErr, subst, sym}
use Rattle.std.specs.Prelude.{IsErrAnd}
use Rattle.std.proofs.lemmas.Result.{err_from_is_err_and}

-- EXIT: the clause on refusals at the exit of a `?`, from the one for the error that it makes
pub exit_with : {T E : Type 0} (r : Result T E) (error : E) (P : E → Type 0) → IsErr r × IsErrAnd r (λ made. made ≡ error) → P error → IfErr r P
exit_with r error P says p =
    let (made, is, same) = err_from_is_err_and r says.1 in
    subst (λ x. IfErr x P) (sym is) (subst P (sym same) p)
