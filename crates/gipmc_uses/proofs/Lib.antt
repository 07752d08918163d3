mod SameSums
