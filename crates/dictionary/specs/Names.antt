-- The names of the entries, in the order of the table.
use Rattle.std.specs.Prelude.{ℕ, cond, List, [], ◌∷◌, Some, None, codes, Option, ◌==◌}
use Rattle.dictionary.specs.declared.entry.Entry.{Entry}
use Rattle.dictionary.specs.Dictionary.{dictionary}

-- as the annex of data objects of Book C-8 has them, each dash as '-'
unfoldable pub names : List (List ℕ)
names =
    codes "Application Label" ∷
    codes "Track 2 Equivalent Data" ∷
    codes "Application PAN" ∷
    codes "Application Interchange Profile" ∷
    codes "DF Name" ∷
    codes "CDOL1" ∷
    codes "Application File Locator" ∷
    codes "Terminal Verification Results" ∷
    codes "Transaction Date" ∷
    codes "Transaction Type" ∷
    codes "Application Expiration Date" ∷
    codes "Transaction Currency Code" ∷
    codes "Application PAN Sequence Number" ∷
    codes "Amount, Authorised (Numeric)" ∷
    codes "Amount, Other (Numeric)" ∷
    codes "Application Usage Control" ∷
    codes "Application Version Number (Reader)" ∷
    codes "Issuer Application Data" ∷
    codes "Issuer Code Table Index" ∷
    codes "Application Preferred Name" ∷
    codes "Terminal Country Code" ∷
    codes "Interface Device Serial Number" ∷
    codes "Payment Account Reference" ∷
    codes "Application Cryptogram" ∷
    codes "Cryptogram Information Data" ∷
    codes "Terminal Capabilities" ∷
    codes "Terminal Type" ∷
    codes "Application Transaction Counter" ∷
    codes "Unpredictable Number" ∷
    codes "PDOL" ∷
    codes "Merchant Name and Location" ∷
    codes "Issuer Application Data MAC" ∷
    codes "Data Envelope 1" ∷
    codes "Data Envelope 2" ∷
    codes "Data Envelope 3" ∷
    codes "Data Envelope 4" ∷
    codes "Data Envelope 5" ∷
    codes "Data Envelope 6" ∷
    codes "Data Envelope 7" ∷
    codes "Data Envelope 8" ∷
    codes "Data Envelope 9" ∷
    codes "Data Envelope 10" ∷
    codes "Tags To Read" ∷
    codes "Error Indication" ∷
    codes "Terminal Action Code - Denial" ∷
    codes "Terminal Action Code - Online" ∷
    codes "Reader Contactless Floor Limit" ∷
    codes "Default CDOL1" ∷
    []

-- the name beside the first entry that has the tag
abbrev pub beside : ℕ → List Entry → List (List ℕ) → Option (List ℕ)
beside t [] ns = None
beside t (e ∷ es) [] = None
beside t (e ∷ es) (n ∷ ns) = cond (e.tag == t) (Some n) (beside t es ns)

-- the name of a tag, where the dictionary has it
unfoldable pub name_of : ℕ → Option (List ℕ)
name_of t = beside t dictionary names
