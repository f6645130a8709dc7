mod RisingRows
