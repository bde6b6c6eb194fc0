-- `account::is_iban` meets its contract. Assumes nothing.
use Rattle.value.proofs.classes.Codes.{iban_exactly}
use Rattle.value_codes.proofs.account.is_iban.Goals as goal

pub returns : goal.returns
returns c =
    iban_exactly _ _ c.if-t-lt-LEAST.false c.if-t-gt-MOST.false c.are_in_place.ensures
